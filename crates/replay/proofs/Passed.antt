-- A word's number, as it is read back where it is passed on.
-- Assumes nothing.
use Rattle.std.proofs.Common.{◌≡◌, ℕ}
use Rattle.number_words.specs.Word.{signed_of}
use Rattle.number_words.proofs.ReadBack.{read, read_back}
use Rattle.number_words.proofs.Words.{signed_fits}

pub passed : (w : ℕ) → read (signed_of w) ≡ signed_of w
passed w = read_back (signed_of w) (signed_fits w)
