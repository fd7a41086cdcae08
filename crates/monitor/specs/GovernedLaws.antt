-- A governed state's policy is a checked one, and the state fits it, also after a possible event.
-- It proves, for the crates above, and assumes nothing.
use Rattle.std.proofs.Common.{◌≡◌, ℕ, ◌+◌, ◌<◌, None, length, take, set, sym, ap, ◌∙◌, subst}
use Rattle.std.proofs.Math.Seq.{take-set-lt}
use Rattle.records.specs.declared.event.Event.{Event}
use Rattle.policy.specs.declared.approved.Approved.{Approved}
use Rattle.policy.specs.declared.tables.Tables.{Tables}
use Rattle.policy.specs.Approved as approved
use Rattle.policy.specs.ApprovedLaws.{policy_well_formed}
use Rattle.policy.specs.WellFormed.{WellFormed}
use Rattle.monitor.specs.declared.states.Cells.{Cells}
use Rattle.monitor.specs.declared.governed.GovernedState.{GovernedState}
use Rattle.monitor.specs.declared.states.State.{State}
use Rattle.monitor.specs.Authority.{Fits}
use Rattle.monitor.specs.Cells.{Sound, session_at}
use Rattle.monitor.specs.declared.changes.Change.TheVariants.{Seated}
use Rattle.monitor.specs.declared.sessions.Session.{Session}
use Rattle.monitor.specs.declared.sessions.Whose.{Whose}
use Rattle.monitor.specs.Changes.{change_of, applied, next}
use Rattle.monitor.specs.Governed.{tables_of, cells_of}
use Rattle.monitor.specs.Meaning.{Lawful}
use Rattle.monitor.specs.Possible.{Possible, impossibility}
use Rattle.monitor.specs.SessionLaws.{active_in-take, seats_in_set, seats_in-take, using-take}
use Rattle.monitor.specs.Sessions.{active_in, seats_where, seats_in, sessions_using}
use Rattle.monitor.specs.AuthorityLaws.{unused}
use Rattle.monitor.specs.ChangeLaws.{MayChange, change_fits, possible_may, next_fits, in_place}

pub state-sound : (s : State) → Sound s.cells
state-sound s = record { wide = s.wide; owned = s.owned; live = s.live; entitled = s.entitled }

pub governed_formed : (g : GovernedState) → WellFormed (tables_of g)
governed_formed g = policy_well_formed g.policy

pub governed_fits : (g : GovernedState) → Fits (tables_of g) (cells_of g)
governed_fits g =
    record {
      sound = state-sound g.state;
      stored = g.stored;
      ranged = g.ranged;
      enabled_within = g.enabled_within;
      open_within = g.open_within;
    }

pub moved_fits : (g : GovernedState) (e : Event) (d : Cells)
    → None ≡ impossibility (tables_of g) (cells_of g) e
    → d ≡ next (tables_of g) (cells_of g) e
    → Fits (tables_of g) d
moved_fits g e d can is =
    subst (Fits (tables_of g)) (sym is)
    (next_fits (tables_of g) (governed_formed g) (cells_of g)
    (governed_fits g) e (sym can))

pub approved_lawful : (p : Approved) → Lawful (approved.tables_of p)
approved_lawful p = record { formed = policy_well_formed p; passes = p.passes }

-- what is active is active in the sessions of the policy
pub sessions-active_in : (g : GovernedState) (w : Whose)
    → active_in w (take (tables_of g).sizes.sessions (cells_of g).sessions)
    ≡ active_in w (cells_of g).sessions
sessions-active_in g w =
    active_in-take w (tables_of g).sizes.sessions (cells_of g).sessions
    (unused (tables_of g) (cells_of g) (governed_fits g))

pub sessions-seats_in : (g : GovernedState) (w : Whose)
    → seats_in w (take (tables_of g).sizes.sessions (cells_of g).sessions)
    ≡ seats_in w (cells_of g).sessions
sessions-seats_in g w =
    seats_in-take w (tables_of g).sizes.sessions (cells_of g).sessions
    (unused (tables_of g) (cells_of g) (governed_fits g))

pub sessions-using : (g : GovernedState) (r : ℕ)
    → sessions_using (take (tables_of g).sizes.sessions (cells_of g).sessions) r
    ≡ sessions_using (cells_of g).sessions r
sessions-using g r =
    using-take (tables_of g).sizes.sessions (cells_of g).sessions r
    (unused (tables_of g) (cells_of g) (governed_fits g))

-- and so after a possible event that puts another session in the place of one
module _ (g : GovernedState) (e : Event)
    (can : Possible (tables_of g) (cells_of g) e) (s : ℕ) (y : Session)
    (is : Seated s y ≡ change_of (cells_of g) e) where
  abbrev t : Tables
  t = tables_of g

  abbrev c : Cells
  c = cells_of g

  may : MayChange t c (Seated s y)
  may =
      subst (MayChange t c) (sym is) (possible_may t (governed_formed g) c (governed_fits g) e can)

  fits : Fits t (applied t c (Seated s y))
  fits = change_fits t (governed_formed g) c (governed_fits g) (Seated s y) may

  pub sessions-active_in-set : (w : Whose)
      → active_in w (set (take t.sizes.sessions c.sessions) s y) ≡ active_in w (next t c e).sessions
  sessions-active_in-set w =
      ap (active_in w) (sym (take-set-lt t.sizes.sessions c.sessions s y may.0))
      ∙ active_in-take w t.sizes.sessions (set c.sessions s y)
      (unused t (applied t c (Seated s y)) fits)
      ∙ ap (λ d. active_in w (applied t c d).sessions) is

  pub sessions-in_place : s < length c.sessions
  sessions-in_place = in_place t (governed_formed g) c (governed_fits g) s y may.0 may.1

  pub seats_in-next : (w : Whose)
      → seats_in w (next t c e).sessions + seats_where w (session_at c s)
      ≡ seats_in w c.sessions + seats_where w y
  seats_in-next w =
      ap (λ d. seats_in w (applied t c d).sessions + seats_where w (session_at c s)) (sym is)
      ∙ seats_in_set w c.sessions s y sessions-in_place

  pub sessions-using-set : (r : ℕ)
      → sessions_using (set (take t.sizes.sessions c.sessions) s y) r
      ≡ sessions_using (next t c e).sessions r
  sessions-using-set r =
      ap (λ xs. sessions_using xs r) (sym (take-set-lt t.sizes.sessions c.sessions s y may.0))
      ∙ using-take t.sizes.sessions (set c.sessions s y) r
      (unused t (applied t c (Seated s y)) fits)
      ∙ ap (λ d. sessions_using (applied t c d).sessions r) is
