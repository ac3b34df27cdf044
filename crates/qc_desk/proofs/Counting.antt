-- The place of each started top is at most the number of started tops, so the next one is new.
use Rattle.std.proofs.Common.{◌≡◌, ℕ, ◌+◌, ◌<◌, ◌≤◌, ◌%◌, ◌^◌, [], ◌∷◌, ◌++◌, length, arith, refl, sym, ap, ◌∙◌, subst, inl, inr}
use Rattle.std.specs.Prelude.{Result, Ok, Err, OnOk, OnErr, IsTrue, nat_le}
use Rattle.std.proofs.lemmas.Bool.{le-leb}
use Rattle.std.proofs.lemmas.Nat.{div-mul-add, mod-mul-add}
use Rattle.std.proofs.lemmas.List.{length-append}
use Rattle.qc_event.specs.declared.event.Entry.{Entry}
use Rattle.qc_event.specs.declared.event.Event.{Event}
use Rattle.qc_event.specs.declared.event.Event.TheVariants as event
use Rattle.qc_event.specs.declared.event.Kind.{Kind}
use Rattle.qc_event.specs.declared.event.Kind.TheVariants as kind
use Rattle.qc_event.specs.Base.{Setting}
use Rattle.qc_event.specs.History.{Past, Name, start, children}
use Rattle.qc_event.specs.Legal.{Allowed}
use Rattle.qc_event.specs.Seats.{is_client, number_in, top_name}
use Rattle.qc_event.specs.Users.{MayStartTop}
use Rattle.qc_event.proofs.LastNumber.{is_child-last}
use Rattle.qc_event.proofs.OneEntry.{Starting, start_step, children_longer, child_added, not_some}
use Rattle.qc_desk.specs.Entries.{AreCounted, entry}

-- the event starts no top
abbrev pub StartsNoTop : Event → Type 0
StartsNoTop ev = (number : ℕ) → Starting (number ∷ []) ev → ⊥

-- nothing changes for tops
pub counted_else : (e : Entry) (past : Past) → StartsNoTop e.event → AreCounted past → AreCounted (e ∷ past)
counted_else e past none counted number h = elim (start_step e past (number ∷ []) h) [
  | inl old ↦ children_longer e past [] (number % 2 ^ 32) (counted number old)
  | inr new ↦ absurd (none number new.1)
]

-- after an entry was appended, or not
pub counted_after : (A B T E : Type 0) (past now : Past) (e : Entry) (r : Result T E) → OnOk r ((now ≡ e ∷ past) × A) → OnErr r ((now ≡ past) × B) → AreCounted past → (AreCounted past → AreCounted (e ∷ past)) → AreCounted now
counted_after A B T E past now e (Ok x) ok err counted more = subst AreCounted (sym ok.0) (more counted)
counted_after A B T E past now e (Err x) ok err counted more = subst AreCounted (sym err.0) counted

pub counted_none : AreCounted []
counted_none number h = absurd cc

-- the next top is counted
abbrev pub next_top : ℕ → Past → Name
next_top epoch past = top_name epoch (length (children past []) + 1)

started_is : (m : Name) (k j : Kind) (n : Name) → event.Start m k ≡ event.Start n j → n ≡ m
started_is m k j n is = cc

abbrev IsName : Name → Name → Type 0
IsName x y = x ≡ y

numbers : (a b : ℕ) → IsName (a ∷ []) (b ∷ []) → a ≡ b
numbers a b is = cc

pub counted_top : (epoch seat : ℕ) (past : Past) (k : Kind) → length (children past []) + 1 < 2 ^ 32 → AreCounted past → AreCounted (entry seat (event.Start (next_top epoch past) k) ∷ past)
counted_top epoch seat past k room counted number h = elim (start_step (entry seat (event.Start (next_top epoch past) k)) past (number ∷ []) h) [
  | inl old ↦ children_longer (entry seat (event.Start (next_top epoch past) k)) past [] (number % 2 ^ 32) (counted number old)
  | inr new ↦
      let same : number ≡ number_in epoch (length (children past []) + 1) = numbers _ _ (started_is (next_top epoch past) k new.1.0 (number ∷ []) new.1.1) in
      let place : number % 2 ^ 32 ≡ length (children past []) + 1 = ap (λ n. n % 2 ^ 32) same ∙ mod-mul-add epoch (2 ^ 32) (length (children past []) + 1) room in
      let more : children (entry seat (event.Start (next_top epoch past) k) ∷ past) [] ≡ children past [] ++ next_top epoch past ∷ [] =
      child_added (entry seat (event.Start (next_top epoch past) k)) past [] (next_top epoch past) k refl (is_child-last [] (number_in epoch (length (children past []) + 1))) in
      omega (arith, place, ap length more, length-append (children past []) (next_top epoch past ∷ []))
]

-- the next top may start
pub top_allowed : (setting : Setting) (epoch seat : ℕ) (past : Past) (session body : ℕ) → 1 ≤ epoch → length (children past []) + 1 < 2 ^ 32 → AreCounted past → IsTrue (is_client seat) → Allowed setting past (entry seat (event.Start (next_top epoch past) (kind.User session body)))
top_allowed setting epoch seat past session body some room counted client = may
  where
    may : MayStartTop past seat (number_in epoch (length (children past []) + 1)) (kind.User session body)
    may = record {
      by_client = client;
      user = tt;
      epoch = ap (λ n. nat_le 1 n) (div-mul-add epoch (2 ^ 32) (length (children past []) + 1) room) ∙ le-leb 1 epoch some;
      place = ap (λ n. nat_le 1 n) (mod-mul-add epoch (2 ^ 32) (length (children past []) + 1) room) ∙ le-leb 1 (length (children past []) + 1) (omega arith);
      fresh = not_some (start past (number_in epoch (length (children past []) + 1) ∷ [])) (λ h.
          let low = counted (number_in epoch (length (children past []) + 1)) h in
          let is = mod-mul-add epoch (2 ^ 32) (length (children past []) + 1) room in
          omega (arith, low, is));
    }
