use Rattle.std.proofs.Common.{◌≡◌, ℕ, Bool, ◌&&◌, ◌||◌, sym, ap, ◌∙◌, arith, rules}
use Rattle.sets.specs.Sets.{has}
use Rattle.sets.specs.Aliases.{RoleSet}
use Rattle.sets.specs.FirstLaws.{First, first_some, first_none, first-same}
use Rattle.policy.specs.Entries.{users_pair}
use Rattle.policy.specs.RowsUnionLaws.{smaller_rest}
use Rattle.monitor.specs.declared.sessions.Whose.TheVariants.{User}
use Rattle.monitor.specs.declared.states.Cells.{Cells}
use Rattle.monitor.specs.Cells.{is_active_for}
use Rattle.monitor.specs.Changes.{next}
use Rattle.monitor.specs.PossibleEvents.{tables_of, cells_of}
use Rattle.families.specs.Separation.{is_rival, user_conflict}
use Rattle.families.proofs.Searches.{some_but_one, some_of_none, or_last}
use Rattle.families.proofs.separation.check_users.Goals as goal

pub loop-role-init : goal.loop-role-init
loop-role-init c v l =
    let p = c.args.possible in
    let after : Cells = next (tables_of p) (cells_of p) p.event in
    ap (λ b. b || is_rival (tables_of p) after c.args.owner c.args.new v) (c.empty-conflicting.ensures.members v)

pub loop-role-smaller : goal.loop-role-smaller
loop-role-smaller c =
    let r : First 32 (has c.loop-role.rest.bits) c.in-Some.role = first_some 32 _ _ (sym c.in-Some.ensures.value) in
    omega (arith, smaller_rest c.loop-role.rest.bits c.in-Some.role r.within r.passes, ap (λ (s : RoleSet). s.bits) c.without-rest.ensures.value)

pub loop-role-preserved : goal.loop-role-preserved
loop-role-preserved c v l =
    let p = c.args.possible in
    let after : Cells = next (tables_of p) (cells_of p) p.event in
    let role = c.in-Some.role in
    let test : ℕ → Bool = λ r. users_pair (tables_of p) r c.args.owner v && is_active_for after (User v) r in
    let r : First 32 (has c.loop-role.rest.bits) role = first_some 32 _ _ (sym c.in-Some.ensures.value) in
    ap (λ b. b || is_rival (tables_of p) after c.args.owner c.without-rest.result v)
    (c.union-conflicting.ensures.members v ∙ ap (λ b. has c.loop-role.conflicting.bits v || b) (c.rivals.ensures v l))
    ∙ some_but_one test (has c.loop-role.conflicting.bits v) c.loop-role.rest c.without-rest.result role r.within r.passes c.without-rest.ensures.value
    ∙ c.loop-role.invariant v l

pub returns : goal.returns
returns c =
    let p = c.args.possible in
    let after : Cells = next (tables_of p) (cells_of p) p.event in
    let none = first_none 32 (has c.loop-role.rest.bits) (sym c.lowest.ensures.value ∙ c.in_default.is) in
    let found : c.lowest-2.result ≡ user_conflict (tables_of p) after c.args.owner c.args.new =
    c.lowest-2.ensures.value ∙ first-same 64 (has c.loop-role.conflicting.bits) (is_rival (tables_of p) after c.args.owner c.args.new)
    (λ v l. sym (or_last (has c.loop-role.conflicting.bits v) (is_rival (tables_of p) after c.args.owner c.loop-role.rest v)
    (some_of_none (λ r. users_pair (tables_of p) r c.args.owner v && is_active_for after (User v) r) c.loop-role.rest none)) ∙ c.loop-role.invariant v l) in
    search rules
