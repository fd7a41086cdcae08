use Rattle.std.proofs.Common.{◌≡◌, ◌+◌, ◌≤◌, drop}
use Rattle.monitor.specs.Sessions.{sessions_using}
use Rattle.monitor.proofs.sessions.using_among.Given as goal

abbrev pub invariant-loop-session : goal.invariant-loop-session
invariant-loop-session l =
    (l.using + sessions_using (drop l.session-index l.sessions) l.role
    ≡ sessions_using l.sessions l.role) × (l.using ≤ l.session-index)
