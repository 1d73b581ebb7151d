-- The mistaken lists, computed.
-- Assumes nothing.
use Rattle.std.proofs.Common.{refl}
use Rattle.theory.specs.Search.{release_within}
use Rattle.cases.specs.Mistakes.{raise_within, found_by, Mistakes}

pub mistakes : Mistakes
unfolding release_within raise_within found_by
mistakes = record { right = refl; lost = refl; twice = refl }
