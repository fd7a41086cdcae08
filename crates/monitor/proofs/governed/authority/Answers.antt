use Rattle.std.proofs.Common.{◌≡◌, ℕ, sym, ap, ◌∙◌, subst}
use Rattle.sets.specs.Aliases.{RoleSet}
use Rattle.policy.specs.declared.seniority.Seniority.{Seniority}
use Rattle.policy.specs.Seniority.{closure, rows_union}
use Rattle.policy.specs.SeniorityLaws.{rows_union-same}
use Rattle.monitor.specs.Authority.{authority_of, Gives}
use Rattle.monitor.specs.AuthorityLaws.{authority_of_senior, senior_authority_of}
use Rattle.monitor.proofs.governed.authority.Goals as goal

pub returns : goal.returns
returns c =
    let p = c.args.policy.now in
    let t = p.draft.tables in
    let w = p.draft.formed in
    let is : c.below.result ≡ authority_of t c.args.assigned =
    c.below.ensures
    ∙ ap (λ (x : Seniority). record { bits = rows_union x.rows c.args.assigned 32 })
    c.seniority.ensures
    ∙ ap {B = RoleSet} (λ (n : ℕ). record { bits = n })
    (rows_union-same p.seniority.rows (closure t.hierarchy.juniors) c.args.assigned 32 p.closed) in
    record {
      answer = is;
      law = subst (Gives t c.args.assigned) (sym is)
          (record {
            each_by_a_senior = authority_of_senior t w c.args.assigned;
            every_junior = senior_authority_of t w c.args.assigned;
          });
    }
