use Rattle.std.proofs.Common.{◌≡◌, ℕ, suc, ◌+◌, take, drop, set, ap, ◌∙◌, sym, arith}
use Rattle.sets.specs.Aliases.{RoleSet}
use Rattle.sets.specs.Sets.{union}
use Rattle.monitor.specs.SessionLaws.{active_in-set, rest_from}
use Rattle.monitor.specs.Sessions.{active_where, active_in}
use Rattle.monitor.proofs.sessions.active_with.Goals as goal

pub returns : goal.returns
returns c =
    let xs = c.args.sessions.now in
    let w = c.args.whose in
    let p = c.from-place.result in
    let next : p + 1 ≡ suc p = omega arith in
    let first : c.active_among-2.result.bits ≡ active_in w (take p xs) =
    ap (λ (s : RoleSet). s.bits) c.active_among-2.ensures in
    let here : c.active_where.result.bits ≡ active_where w c.args.to =
    ap (λ (s : RoleSet). s.bits) c.active_where.ensures in
    let last : c.active_among-3.result.bits ≡ active_in w (drop (suc p) xs) =
    ap (λ (s : RoleSet). s.bits) c.active_among-3.ensures ∙ ap (active_in w) (rest_from (p + 1) xs)
    ∙ ap (λ k. active_in w (drop k xs)) next in
    let both : c.union.result.bits ≡ union (active_in w (take p xs)) (active_where w c.args.to) =
    ap (λ (s : RoleSet). s.bits) c.union.ensures.value
    ∙ ap (λ n. union n c.active_where.result.bits) first
    ∙ ap (union (active_in w (take p xs))) here in
    let whole : union c.union.result.bits c.active_among-3.result.bits
    ≡ active_in w (set xs c.args.place c.args.to) =
    ap (λ n. union n c.active_among-3.result.bits) both
    ∙ ap (union (union (active_in w (take p xs)) (active_where w c.args.to))) last
    ∙ sym (active_in-set w xs p c.args.to (omega (arith, c.if-place-sessions.false)))
    ∙ ap (λ k. active_in w (set xs k c.args.to)) c.from-place.ensures in
    c.union-2.ensures.value ∙ ap {B = RoleSet} (λ (n : ℕ). record { bits = n }) whole
