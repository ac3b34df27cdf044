-- What the machine knows of one name, and what each event adds to that.
use Rattle.std.proofs.Common.{◌≡◌, Bool, true, false, ◌||◌, List, [], ◌∷◌, ◌++◌, refl, ap, ◌∙◌}
use Rattle.std.proofs.lemmas.List.Folds.{list_any-append}
use Rattle.std.proofs.lemmas.Slice.Eq.{bytes_eq-Decides}
use Rattle.std.proofs.Math.Bool.{or-false, or-true}
use Rattle.qc_serial.specs.declared.event.SerialEvent.{SerialEvent}
use Rattle.qc_serial.specs.declared.event.SerialEvent.TheVariants.{Start, Enter, Read, Write, Leave, Skip}
use Rattle.qc_serial.specs.Machine.{Name, State, same, is_in, next}

-- in which of the machine's lists a name stands
pub record Known : Type 0 where
  pub used : Bool
  pub started : Bool
  pub entered : Bool
  pub closed : Bool

abbrev pub known : State → Name → Known
known m x = record { used = is_in x m.used; started = is_in x m.started; entered = is_in x m.entered; closed = is_in x m.closed }

-- the name of an event
abbrev pub name_of : SerialEvent → Name
name_of (Start n) = n
name_of (Enter n) = n
name_of (Read n rec value) = n
name_of (Write n rec value) = n
name_of (Leave n) = n
name_of (Skip n) = n

-- what an event about a name makes of what was known of it
abbrev pub touched : SerialEvent → Known → Known
touched (Start n) k = record k { used = true; started = true }
touched (Enter n) k = record k { entered = true }
touched (Read n rec value) k = record k { used = true }
touched (Write n rec value) k = record k { used = true }
touched (Leave n) k = record k { closed = true }
touched (Skip n) k = record k { closed = true }

pub same_itself : (n : Name) → same n n ≡ true
same_itself n = (bytes_eq-Decides n n).1 refl

is_in_other : (n x : Name) (names : List Name) → same n x ≡ false → is_in x (names ++ n ∷ []) ≡ is_in x names
is_in_other n x names other = list_any-append (λ y. same y x) names (n ∷ []) ∙ ap (λ b. is_in x names || (b || false)) other ∙ or-false (is_in x names)

is_in_last : (n : Name) (names : List Name) → is_in n (names ++ n ∷ []) ≡ true
is_in_last n names = list_any-append (λ y. same y n) names (n ∷ []) ∙ ap (λ b. is_in n names || (b || false)) (same_itself n) ∙ or-true (is_in n names)

-- an event changes nothing about other names
pub known_other : (m : State) (e : SerialEvent) (x : Name) → same (name_of e) x ≡ false → known (next m e) x ≡ known m x
known_other m (Start n) x other = ap (λ b. record (known m x) { used = b; started = is_in x (m.started ++ n ∷ []) }) (is_in_other n x m.used other) ∙ ap (λ b. record (known m x) { started = b }) (is_in_other n x m.started other)
known_other m (Enter n) x other = ap (λ b. record (known m x) { entered = b }) (is_in_other n x m.entered other)
known_other m (Read n rec value) x other = ap (λ b. record (known m x) { used = b }) (is_in_other n x m.used other)
known_other m (Write n rec value) x other = ap (λ b. record (known m x) { used = b }) (is_in_other n x m.used other)
known_other m (Leave n) x other = ap (λ b. record (known m x) { closed = b }) (is_in_other n x m.closed other)
known_other m (Skip n) x other = ap (λ b. record (known m x) { closed = b }) (is_in_other n x m.closed other)

pub known_touched : (m : State) (e : SerialEvent) → known (next m e) (name_of e) ≡ touched e (known m (name_of e))
known_touched m (Start n) = ap (λ b. record (known m n) { used = b; started = is_in n (m.started ++ n ∷ []) }) (is_in_last n m.used) ∙ ap (λ b. record (known m n) { used = true; started = b }) (is_in_last n m.started)
known_touched m (Enter n) = ap (λ b. record (known m n) { entered = b }) (is_in_last n m.entered)
known_touched m (Read n rec value) = ap (λ b. record (known m n) { used = b }) (is_in_last n m.used)
known_touched m (Write n rec value) = ap (λ b. record (known m n) { used = b }) (is_in_last n m.used)
known_touched m (Leave n) = ap (λ b. record (known m n) { closed = b }) (is_in_last n m.closed)
known_touched m (Skip n) = ap (λ b. record (known m n) { closed = b }) (is_in_last n m.closed)
