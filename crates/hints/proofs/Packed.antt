-- A lent table is examined and walked as it stands packed.
-- Assumes nothing.
use Rattle.table_packing.proofs.Packed.{packed_examined, packed_fine}

pub ruleset packed = (packed_examined, packed_fine)
