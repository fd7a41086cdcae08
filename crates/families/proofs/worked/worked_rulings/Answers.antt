use Rattle.std.proofs.Common.{refl}
use Rattle.families.proofs.Rulings.{rulings}
use Rattle.families.proofs.worked.worked_rulings.Goals as goal

pub returns : goal.returns
returns c = record { value = refl; law = rulings }
