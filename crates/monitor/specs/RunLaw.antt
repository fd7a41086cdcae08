-- The law over whole runs: what is so after any list of events. Assumes nothing.
use Rattle.std.specs.Prelude.{◌≡◌, ℕ, ◌+◌, List, ◌++◌}
use Rattle.records.specs.declared.event.Event.{Event}
use Rattle.policy.specs.declared.tables.Tables.{Tables}
use Rattle.monitor.specs.Answers.{Answer}
use Rattle.monitor.specs.declared.states.Cells.{Cells}
use Rattle.monitor.specs.Apart.{StaticallyApart, SeparatesAt}
use Rattle.monitor.specs.Authority.{Fits, AuthorisedByRelation}
use Rattle.monitor.specs.Cells.{blank, using}
use Rattle.monitor.specs.Counts.{activation, deactivation, closing, how_many}
use Rattle.monitor.specs.History.{reply, replies, after}
use Rattle.monitor.specs.Journal.{GrantedAgain}
use Rattle.monitor.specs.Meaning.{Meaning, Every}
use Rattle.monitor.specs.Possible.{Possible}
use Rattle.monitor.specs.Runs.{Ruled, Ran}

-- of the rules of a pile and the tables of a checked policy: the events es were answered rs, and
-- led from the new state to c
pub record RunLaw (ms : List Meaning) (t : Tables) (es : List Event) (rs : List Answer) (c : Cells)
    : Type 0 where
  -- the answers and the state are the defined ones, and the run is one of the relation, in which
  -- each rule is consulted in a state that it allows
  pub answered : rs ≡ replies ms t blank es
  pub reached : c ≡ after ms t blank es
  pub ran : Ran ms t blank es rs c
  -- in the state an active role is enabled and its owner authorised, by what the hierarchy gives;
  -- and it holds only what the policy has
  pub fits : Fits t c
  -- what is stored of authority and "assigned some role senior to it" say the same, and an active
  -- role's owner is authorised for it in this sense
  pub authorised : AuthorisedByRelation t c
  -- every rule of the pile allows the state
  pub allowed : Every (λ m. m.allowed t c) ms
  -- wherever in the pile a rule stands that allows only states in which nobody is authorised for
  -- two roles in static conflict, as separation does, nobody is
  pub separated : (k : ℕ) → SeparatesAt ms k t → StaticallyApart t c
  -- the next event, if possible, is refused exactly when some rule does not admit it, and by the
  -- topmost such rule
  pub ruled : (e : Event) → Possible t c e → Ruled ms t c e (reply ms t c e)
  -- the sessions with a role active are its granted activations, less its granted deactivations,
  -- less the granted closings that list it
  pub counted : (q : ℕ)
      → using c q + (how_many (deactivation q) es rs + how_many (closing q) es rs)
      ≡ how_many (activation q) es rs
  -- the granted events by themselves are all granted again, with the same answers, and lead to the
  -- same state
  pub again : GrantedAgain ms t es rs c

-- whatever events led to the state c, with the events es and their answers rs they are one list
-- that leads to d
abbrev pub ExtendsRun : List Meaning → Tables → Cells → List Event → List Answer → Cells → Type 0
ExtendsRun ms t c es rs d = (earlier : List Event) (said : List Answer)
    → RunLaw ms t earlier said c → RunLaw ms t (earlier ++ es) (said ++ rs) d
