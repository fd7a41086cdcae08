-- Precedence keeps the laws of a rule. It proves, and assumes nothing.
use Rattle.std.proofs.Common.{arith}
use Rattle.monitor.specs.Meaning.{Law}
use Rattle.families.specs.FamilyLaws.{Named, detail_named}
use Rattle.families.specs.HousePiles.{BelowOwn}
use Rattle.families.specs.Precedence.{requirement_number, violation_by, violation_number, precedence}
use Rattle.families.specs.declared.precedence.RequirementKind.{RequirementKind}
use Rattle.families.specs.declared.precedence.RequirementKind.TheVariants.{Enabled, AssignedToUser, AssignedToAny, ActiveForAny, ActiveInSession, ActiveForOwner}

-- its numbers are 51 to 56
named : (k : RequirementKind) → Named (requirement_number k)
named Enabled = (omega arith, omega arith)
named AssignedToUser = (omega arith, omega arith)
named AssignedToAny = (omega arith, omega arith)
named ActiveForAny = (omega arith, omega arith)
named ActiveInSession = (omega arith, omega arith)
named ActiveForOwner = (omega arith, omega arith)

pub precedence_law : Law precedence
precedence_law = record {
  fresh = λ t law. tt;
  keeps = λ t c e law fits can ok yes. tt;
  named = λ t c e law fits can ok denied.
      let n = detail_named violation_number (λ v. named v.kind) (violation_by t c e) denied in
      (n.0, omega (arith, n.1));
}

pub precedence_below_own : BelowOwn precedence
precedence_below_own t c e law fits can ok denied =
    (detail_named violation_number (λ v. named v.kind) (violation_by t c e) denied).1
