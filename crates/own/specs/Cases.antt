-- The worked cases of the two rules: what piles with the first rule on two activations, and what
-- the second rules on three events. Assumes nothing.
use Rattle.std.specs.Prelude.{◌≡◌, ℕ, List, [], ◌∷◌, ◌++◌, replicate, Ok, Err}
use Rattle.records.specs.declared.event.Event.{Event}
use Rattle.records.specs.declared.event.Event.TheVariants.{Open, Close, Activate}
use Rattle.sets.specs.Aliases.{RoleSet}
use Rattle.policy.specs.declared.tables.Tables.{Tables}
use Rattle.policy.specs.Entries.{no_roles}
use Rattle.policy.specs.Updates.{only}
use Rattle.monitor.specs.declared.states.Cells.{Cells}
use Rattle.monitor.specs.declared.sessions.Session.TheVariants as session
use Rattle.monitor.specs.Meaning.{Meaning, Ruling, ruling}
use Rattle.monitor.specs.Possible.{Possible}
use Rattle.own.specs.Once.{once_per_user}
use Rattle.own.specs.OneOpen.{one_open_session}

-- one user, two roles and two sessions, and nothing else
abbrev pub small : Tables
small = only (record { users = 1; roles = 2; sessions = 2 })

-- the roles 0 and 1, and the role 1 alone
abbrev pub both_roles : RoleSet
both_roles = record { bits = 3 }

abbrev pub role_1 : RoleSet
role_1 = record { bits = 2 }

-- both roles are enabled and assigned to user 0, who has two sessions open and role 1 active in the
-- first
abbrev pub busy : Cells
busy = record {
  assigned = both_roles ∷ replicate 63 no_roles;
  authorised = both_roles ∷ replicate 63 no_roles;
  enabled = both_roles;
  sessions = session.Open 0 role_1 ∷ session.Open 0 no_roles ∷ replicate 62 session.Closed;
}

-- a pile rules so on the event
abbrev pub Rules : List Meaning → Event → Ruling → Type 0
Rules pile e r = ruling pile small busy e ≡ r

-- refused for role 1 by the rule at this place
abbrev pub refused_at : ℕ → Ruling
refused_at place = Err (record { number = 100; subject = 0; place = place })

-- so many rules for role 0, which admit every activation of role 1
abbrev pub others : ℕ → List Meaning
others n = replicate n (once_per_user 0)

-- the rule for role 1
abbrev pub the_rule : List Meaning
the_rule = once_per_user 1 ∷ []

pub record Worked : Type 0 where
  pub both_possible : Possible small busy (Activate 1 1) × Possible small busy (Activate 1 0)
  pub alone : Rules the_rule (Activate 1 1) (refused_at 1)
  pub above_another : Rules (the_rule ++ others 1) (Activate 1 1) (refused_at 1)
  pub below_another : Rules (others 1 ++ the_rule) (Activate 1 1) (refused_at 2)
  pub below_254 : Rules (others 254 ++ the_rule) (Activate 1 1) (refused_at 255)
  pub below_300 : Rules (others 300 ++ the_rule) (Activate 1 1) (refused_at 255)
  pub another_role : Rules the_rule (Activate 1 0) (Ok tt)

-- the same, but for the second session, which is closed
abbrev pub one_busy : Cells
one_busy = record busy { sessions = session.Open 0 role_1 ∷ replicate 63 session.Closed }

-- the second rule, a pile by itself, rules so on the event
abbrev pub OneOpenRules : Event → Ruling → Type 0
OneOpenRules e r = ruling (one_open_session ∷ []) small one_busy e ≡ r

pub record WorkedOneOpen : Type 0 where
  pub possible : Possible small one_busy (Open 1 0) × Possible small one_busy (Activate 0 0)
  -- the first session is open
  pub second_opened : OneOpenRules (Open 1 0)
      (Err (record { number = 101; subject = 0; place = 1 }))
  pub active_there : OneOpenRules (Activate 0 0) (Ok tt)
  pub closed : OneOpenRules (Close 0) (Ok tt)
