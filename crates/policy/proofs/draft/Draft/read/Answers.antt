use Rattle.std.proofs.Common.{Err, ap, ◌∙◌}
use Rattle.std.proofs.lemmas.Result.{err_from_is_err_and}
use Rattle.policy.specs.Reading.{answer_of, draft_of}
use Rattle.policy.proofs.Drafts.{read_lawful}
use Rattle.policy.proofs.draft.Draft.read.Goals as goal

pub returns-in_err-tables-clause-law : goal.returns-in_err-tables-clause-law
returns-in_err-tables-clause-law c =
    let p = err_from_is_err_and c.from_residual.result c.from_residual.ensures.1 in
    let a = c.in_err-tables.ensures.answer in
    read_lawful c.args.bytes.now c.from_residual.result c.bare.result.tables
    (p.1 ∙ ap Err p.2 ∙ ap answer_of a) (c.bare.ensures ∙ ap draft_of a)

pub returns-clause-law : goal.returns-clause-law
returns-clause-law c =
    let a = c.in_ok-tables.ensures.answer in
    read_lawful c.args.bytes.now _ c.in_ok-tables.tables (ap answer_of a) (ap draft_of a)
