-- What is seen of a draft, of an approved policy and of its holder. Assumes nothing.
--   tables_of      the tables of an approved policy
--   seniority_of   its role hierarchy, closed
--   drafted_tables the tables of a draft
--   policy_of      the approved policy that a checked one holds
use Rattle.policy.specs.declared.approved.Approved.{Approved}
use Rattle.policy.specs.declared.checked.Checked.{Checked}
use Rattle.policy.specs.declared.draft.Draft.{Draft}
use Rattle.policy.specs.declared.seniority.Seniority.{Seniority}
use Rattle.policy.specs.declared.tables.Tables.{Tables}

abbrev pub drafted_tables : Draft → Tables
drafted_tables d = d.tables

abbrev pub tables_of : Approved → Tables
tables_of p = p.draft.tables

abbrev pub seniority_of : Approved → Seniority
seniority_of p = p.seniority

abbrev pub policy_of : Checked → Approved
policy_of checked = checked.policy
