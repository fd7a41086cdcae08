-- What is read of a policy's bytes, by the records that stand in them. Assumes nothing.
--   fault_of     the first question that a record fails, given the records before it
--   IsNext       a record is the next of the bytes that are left, and without fault
--   Before       the records before the bytes that are left, the last one first
--   TablesSay    the tables say exactly what the records say
--   Recorded     the records of a policy without fault, its length and its tables
--   AtFault      the fault of the first record that is at fault
--   ReadingLaw   what the answer and the tables of a reading are, of all bytes
use Rattle.std.specs.Prelude.{◌≡◌, ℕ, ◌-◌, Bool, false, not, ◌||◌, ◌⊎◌, ◌↔◌, IsTrue, List, [], ◌∷◌, length, Contains, Some, None, Ok, Err, OnErr, Option, Result, ◌==◌}
use Rattle.records.specs.Entries.{entry_taken}
use Rattle.records.specs.declared.fault.Fault.{Fault}
use Rattle.records.specs.declared.fault.Fault.TheVariants.{MisplacedSizes, OutOfRange, EqualPair, RepeatedLimit}
use Rattle.records.specs.declared.entry.Entry.{Entry}
use Rattle.records.specs.declared.entry.Entry.TheVariants.{Sizes, Inherits, StaticPair, DynamicPair, ConflictingUsers, LimitOfRoleUsers, LimitOfUserRoles, LimitOfUserActive, LimitOfRoleSessions, Required, Dependency, End, AssignmentConflict}
use Rattle.policy.specs.declared.tables.Sizes.{Sizes as Counts}
use Rattle.policy.specs.declared.tables.Tables.{Tables}
use Rattle.policy.specs.Asking.{question}
use Rattle.policy.specs.Entries.{inherits, ssd_pair, dsd_pair, users_pair, assignment_pair, requires_role, depends}
use Rattle.policy.specs.Limits.{limit_of_users, limit_of_roles, limit_of_active, limit_of_sessions}
use Rattle.policy.specs.Reading.{same, is_sizes, is_end, in_range, has_distinct_pair}
use Rattle.policy.specs.Updates.{bare}

-- the numbers of the sizes record; one of each before it, where no other record passes
abbrev pub sizes_given : List Entry → Counts
sizes_given [] = record { users = 1; roles = 1; sessions = 1 }
sizes_given (Sizes u r n ∷ xs) = record { users = u; roles = r; sessions = n }
sizes_given (x ∷ xs) = sizes_given xs

-- do two records set the same of the four limits for the same subject
abbrev pub limits_same : Entry → Entry → Bool
limits_same (LimitOfRoleUsers a m) (LimitOfRoleUsers b n) = a == b
limits_same (LimitOfUserRoles a m) (LimitOfUserRoles b n) = a == b
limits_same (LimitOfUserActive a m) (LimitOfUserActive b n) = a == b
limits_same (LimitOfRoleSessions a m) (LimitOfRoleSessions b n) = a == b
limits_same _ _ = false

-- does one of these records
abbrev pub is_limited : List Entry → Entry → Bool
is_limited [] x = false
is_limited (y ∷ ys) x = limits_same y x || is_limited ys x

-- of a record at a place, in this order: is it a sizes record exactly when it is the first, are all
-- numbers in range, do its last two differ where they have to, had the subject of its limit none
abbrev pub fault_of : List Entry → Entry → ℕ → Option Fault
fault_of before x at =
    question (same (is_sizes x) (length before == 0)) (MisplacedSizes at)
    (question (in_range (sizes_given before) x) (OutOfRange at)
    (question (has_distinct_pair x) (EqualPair at)
    (question (not (is_limited before x)) (RepeatedLimit at) None)))

-- the place of the first of the bytes that are left
abbrev pub place : List ℕ → List ℕ → ℕ
place bytes left = length bytes - length left

-- x is the first record of the bytes that are left, and the bytes after it are rest
pub record IsNext (bytes : List ℕ) (before : List Entry) (left : List ℕ) (x : Entry)
    (rest : List ℕ) : Type 0 where
  pub taken : entry_taken left (place bytes left) ≡ Ok (x, rest)
  pub faultless : fault_of before x (place bytes left) ≡ None

-- all these are before the bytes that are left, without fault, and none is the end record
abbrev pub Before : List ℕ → List Entry → List ℕ → Type 0
Before bytes [] left = left ≡ bytes
Before bytes (x ∷ before) left =
    (from : List ℕ) × Before bytes before from × IsNext bytes before from x left
    × (is_end x ≡ false)

-- the test of two numbers is passed exactly where some record says so, in this order or in either
abbrev pub Says : (ℕ → ℕ → Bool) → List Entry → (ℕ → ℕ → Entry) → Type 0
Says test records entry = (a b : ℕ) → IsTrue (test a b) ↔ Contains records (entry a b)

abbrev pub SaysEitherWay : (ℕ → ℕ → Bool) → List Entry → (ℕ → ℕ → Entry) → Type 0
SaysEitherWay test records entry =
    (a b : ℕ) → IsTrue (test a b) ↔ (Contains records (entry a b) ⊎ Contains records (entry b a))

-- the limit of a subject is n exactly where some record says so
abbrev pub SaysLimit : (ℕ → Option ℕ) → List Entry → (ℕ → ℕ → Entry) → Type 0
SaysLimit limit records entry = (s n : ℕ) → (limit s ≡ Some n) ↔ Contains records (entry s n)

pub record TablesSay (records : List Entry) (t : Tables) : Type 0 where
  pub juniors : Says (inherits t) records Inherits
  pub statics : SaysEitherWay (ssd_pair t) records StaticPair
  pub dynamics : SaysEitherWay (dsd_pair t) records DynamicPair
  pub users : (r : ℕ) → SaysEitherWay (users_pair t r) records (ConflictingUsers r)
  pub assignments : (r : ℕ) → SaysEitherWay (assignment_pair t r) records (AssignmentConflict r)
  pub role_users : SaysLimit (limit_of_users t.limits) records LimitOfRoleUsers
  pub user_roles : SaysLimit (limit_of_roles t.limits) records LimitOfUserRoles
  pub user_active : SaysLimit (limit_of_active t.limits) records LimitOfUserActive
  pub role_sessions : SaysLimit (limit_of_sessions t.limits) records LimitOfRoleSessions
  pub required : (k : ℕ) → Says (requires_role t k) records (Required k)
  pub needs : Says (depends t) records Dependency

-- the first record of the bytes is a sizes record with these numbers
abbrev pub FirstGives : List ℕ → Counts → Type 0
FirstGives bytes s =
    (rest : List ℕ) × (entry_taken bytes 0 ≡ Ok (Sizes s.users s.roles s.sessions, rest))

-- after these records comes the end record, whose last byte is the n-th; the tables are theirs
pub record Recorded (bytes : List ℕ) (n : ℕ) (t : Tables) : Type 0 where
  pub records : List Entry
  pub left : List ℕ
  pub rest : List ℕ
  pub before : Before bytes records left
  pub ended : IsNext bytes records left End rest
  pub count : place bytes rest ≡ n
  pub sizes : FirstGives bytes t.sizes
  pub said : TablesSay records t

-- after these records, which are without fault, none can be taken (no byte is left, the kind is not
-- one of a policy, the body is cut), or the one that is taken fails a question
pub record AtFault (bytes : List ℕ) (f : Fault) : Type 0 where
  pub records : List Entry
  pub left : List ℕ
  pub before : Before bytes records left
  pub fault : (entry_taken left (place bytes left) ≡ Err f)
      ⊎ ((x : Entry) × (rest : List ℕ) × (entry_taken left (place bytes left) ≡ Ok (x, rest))
      × (fault_of records x (place bytes left) ≡ Some f))

-- the answer is a count exactly where a policy without fault has that many bytes, and the tables
-- are its own; it is a fault exactly where that is the first one, and then they are bare
pub record ReadingLaw (bytes : List ℕ) (answer : Result ℕ Fault) (t : Tables) : Type 0 where
  pub read : (n : ℕ) → (answer ≡ Ok n) ↔ Recorded bytes n t
  pub refused : (f : Fault) → (answer ≡ Err f) ↔ AtFault bytes f
  pub unread : OnErr answer (t ≡ bare)
