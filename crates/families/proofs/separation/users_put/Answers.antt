use Rattle.std.proofs.Common.{slice_set, ap, ◌∙◌, arith}
use Rattle.sets.specs.Sets.{has}
use Rattle.monitor.specs.declared.sessions.Whose.TheVariants.{User}
use Rattle.monitor.specs.Sessions.{active_in}
use Rattle.families.proofs.UsersWithRole.{put_users}
use Rattle.families.proofs.separation.users_put.Goals as goal

pub returns : goal.returns
returns c v l =
    let sessions = c.args.sessions.now in
    put_users v c.args.role sessions c.from-place.result c.args.to (omega (arith, c.if-place-sessions.false)) _ _ _ _ _
    (c.users_with-2.ensures v l) (c.users_with-3.ensures v l) (c.users_with-4.ensures v l) (c.union.ensures.members v) (c.union-2.ensures.members v)
    ∙ ap (λ k. has (active_in (User v) (slice_set sessions k c.args.to)) c.args.role) c.from-place.ensures
