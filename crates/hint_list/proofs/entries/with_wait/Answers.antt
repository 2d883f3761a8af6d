-- `hint_list::entries::with_wait` meets its contract: what was found is added, and a refusal is told by its number.
-- Assumes nothing.
use Rattle.std.proofs.Common.{rules, ◌≡◌}
use Rattle.hint_list.specs.Numbered.{one_numbered}
use Rattle.hint_list.proofs.Added.{told_number, added_numbered}
use Rattle.hint_list.proofs.entries.with_wait.Goals as goal

pub returns-in-Ok : goal.returns-in-Ok
unfolding one_numbered
returns-in-Ok c =
    let told : c.map_err.result ≡ told_number c.with_found.result = search rules in
    rw (c.in-Ok.is, told) (added_numbered _ _ c.with_found.ensures)
