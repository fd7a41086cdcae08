-- What every draft and every approved policy keeps. Assumes nothing.
use Rattle.policy.specs.declared.approved.Approved.{Approved}
use Rattle.policy.specs.declared.draft.Draft.{Draft}
use Rattle.policy.specs.Approved.{drafted_tables, tables_of, seniority_of}
use Rattle.policy.specs.Questions.{Passes}
use Rattle.policy.specs.Seniority.{Closes}
use Rattle.policy.specs.WellFormed.{WellFormed}

pub draft_well_formed : (d : Draft) → WellFormed (drafted_tables d)
draft_well_formed d = d.formed

pub policy_well_formed : (p : Approved) → WellFormed (tables_of p)
policy_well_formed p = p.draft.formed

pub policy_passes : (p : Approved) → Passes (tables_of p)
policy_passes p = p.passes

pub policy_closed : (p : Approved) → Closes (tables_of p).hierarchy.juniors (seniority_of p).rows
policy_closed p = p.closed
