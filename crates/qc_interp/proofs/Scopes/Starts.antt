-- A start is entered once, so what it says is what its name is for; and what the start of a top says.
use Rattle.std.proofs.Common.{◌≡◌, ◌<◌, ◌+◌, arith, ℕ, zero, suc, true, [], ◌∷◌, length, refl, sym, ap, ◌∙◌, subst}
use mathlib.Core.Bool.{true≢false}
use Rattle.std.specs.Prelude.{None, Some, slice_get, is_some, is_none, ◌==◌, ◌||◌, if◌then◌else◌}
use Rattle.std.specs.Option.{option_or}
use Rattle.std.proofs.lemmas.Bool.{eqb-true, eq-eqb}
use Rattle.qc_event.specs.declared.event.Entry.{Entry}
use Rattle.qc_event.specs.declared.event.Event.{Event}
use Rattle.qc_event.specs.declared.event.Event.TheVariants as event
use Rattle.qc_event.specs.declared.event.Kind.{Kind}
use Rattle.qc_event.specs.declared.event.Kind.TheVariants as kind
use Rattle.qc_event.specs.Base.{Setting}
use Rattle.qc_event.specs.History.{Past, Name, Begun, start, start_in, children, child_in, is_child, same}
use Rattle.qc_event.specs.Legal.{Legal, MayHappen}
use Rattle.qc_event.proofs.LastNumber.{child_last, length_last, rest_of}
use Rattle.qc_event.proofs.Lawful.{lawful}
use Rattle.qc_event.proofs.LegalOrderly.{legal_orderly}
use Rattle.qc_event.proofs.Lineage.{fresh_child}
use Rattle.qc_event.proofs.OneEntry.{if_is, if_some, start_is}
use Rattle.qc_event.proofs.Orderly.{KeepsOrder, IsNextChild}
use Rattle.qc_names.specs.Name as name
use Rattle.qc_script.specs.Numbers.{any_top}
use Rattle.qc_interp.specs.Adding.{starts_for}
use Rattle.qc_interp.specs.Sessions.{top_by, top_in}
use Rattle.qc_interp.proofs.Listing.Places.{some_same}

-- AN ENTRY AT A PLACE

-- it was allowed by those before it
pub legal_at : (setting : Setting) (past : Past) (i : ℕ) (e : Entry) → Legal setting past → slice_get past i ≡ Some e → (before : Past) × MayHappen setting before e.seat e.event
legal_at setting [] i e legal is = absurd cc
legal_at setting (x ∷ past) zero e legal is = (past, subst (λ (y : Entry). MayHappen setting past y.seat y.event) (some_same x e is) legal.1)
legal_at setting (x ∷ past) (suc i) e legal is = legal_at setting past i e legal.0 is

pub start_fresh : (setting : Setting) (past : Past) (e : Entry) (n : Name) (k : Kind) → Legal setting (e ∷ past) → e.event ≡ event.Start n k → start past n ≡ None
start_fresh setting past e n k legal is = by_name n (subst (KeepsOrder past) is (legal_orderly setting (e ∷ past) legal).1)
  where
    by_next : (x y : ℕ) (r : Name) → IsNextChild past (x ∷ y ∷ r) k → start past (x ∷ y ∷ r) ≡ None
    by_next x y r next =
        let p = name.front (x ∷ y ∷ r) in
        let j = length (children past p) + 1 in
        let long : length (x ∷ y ∷ r) ≡ length p + 1 = ap length next.next_child ∙ length_last p j in
        let far : 0 < length p = omega (arith, long) in
        subst (λ m. start past m ≡ None) (sym next.next_child) (fresh_child past p j [] (lawful past (legal_orderly setting past legal.0)) far (omega arith)).no_start

    by_name : (n : Name) → KeepsOrder past (event.Start n k) → start past n ≡ None
    by_name [] keeps = absurd keeps
    by_name (x ∷ []) keeps = keeps.fresh
    by_name (x ∷ y ∷ r) keeps = by_next x y r keeps

abbrev pub begun_by : Entry → Kind → Begun
begun_by e k = record { seat = e.seat; kind = k }

-- what a start says is what its name is for, and who started it
pub started_at : (setting : Setting) (past : Past) (i : ℕ) (e : Entry) (n : Name) (k : Kind) → Legal setting past → slice_get past i ≡ Some e → e.event ≡ event.Start n k → start past n ≡ Some (begun_by e k)
started_at setting [] i e n k legal is at = absurd cc
started_at setting (x ∷ past) zero e n k legal is at =
    let same = some_same x e is in
    let here : x.event ≡ event.Start n k = ap (λ (y : Entry). y.event) same ∙ at in
    start_is x past n k (start_fresh setting past x n k legal here) here ∙ ap (λ y. Some (begun_by y k)) same
started_at setting (x ∷ past) (suc i) e n k legal is at = ap (λ o. option_or o (start_in n x.seat x.event)) (started_at setting past i e n k legal.0 is at)

-- under the seat that the start says
pub start_seat : (n : Name) (seat : ℕ) (ev : Event) (b : Begun) → start_in n seat ev ≡ Some b → seat ≡ b.seat
start_seat n seat (event.Start m k) b h = ap (λ (x : Begun). x.seat) (if_is (same m n) _ b h).1
start_seat n seat _ b h = absurd cc

-- TOPS

-- a top is one number
pub top_is : (t : Name) → is_child [] t ≡ true → (number : ℕ) × (t ≡ number ∷ [])
top_is t child = let l = child_last [] t child in (l.0, l.1)

-- two tops of one name are one
pub one_top : (x y : ℕ) (n : Name) → name.is_ancestor (x ∷ []) n ≡ true → name.is_ancestor (y ∷ []) n ≡ true → x ≡ y
one_top x y n low also =
    let r = rest_of (x ∷ []) n low in
    let s = rest_of (y ∷ []) n also in
    let both : x ∷ r.0 ≡ y ∷ s.0 = sym r.1 ∙ s.1 in
    let same : x ≡ y = cc in
    same

-- the start of a top
pub record StartsTop (ev : Event) (t : Name) : Type 0 where
  pub number : ℕ
  pub kind : Kind
  pub starts : ev ≡ event.Start (number ∷ []) kind
  pub top : t ≡ number ∷ []

pub starts_top : (ev : Event) (t : Name) → child_in [] ev ≡ Some t → StartsTop ev t
starts_top (event.Start n k) t is =
    let one = if_is (is_child [] n) n t is in
    let top = top_is n one.0 in
    record { number = top.0; kind = k; starts = ap (λ m. event.Start m k) top.1; top = sym one.1 ∙ top.1 }
starts_top _ t is = absurd cc

-- a top of a session is a user transaction of it
pub user_of : (s number : ℕ) (k : Kind) → is_some (top_by s (number ∷ []) k) ≡ true → (b : ℕ) × (k ≡ kind.User s b)
user_of s number (kind.User of b) h = (b, ap (λ r. kind.User r b) (eqb-true of s (if_some (of == s) (number ∷ []) h)))
user_of s number _ h = absurd (true≢false (sym h))

-- so it is where a client started it for its session
pub starts_user : (s : ℕ) (e : Entry) (t : Name) (top : StartsTop e.event t) → starts_for s e ≡ true → (b : ℕ) × (top.kind ≡ kind.User s b)
starts_user s e t top h =
    user_of s top.number top.kind (sym (ap (λ ev. is_none (any_top ev) || is_some (top_in s ev)) top.starts) ∙ h)

pub top_some : (s x b : ℕ) → top_by s (x ∷ []) (kind.User s b) ≡ Some (x ∷ [])
top_some s x b = ap (λ t. if t then Some (x ∷ []) else None) (eq-eqb s s refl)

-- the start of a top of a session
pub record StartsOf (s : ℕ) (ev : Event) (t : Name) : Type 0 where
  pub number : ℕ
  pub body : ℕ
  pub starts : ev ≡ event.Start (number ∷ []) (kind.User s body)
  pub top : t ≡ number ∷ []

pub starts_of : (s : ℕ) (ev : Event) (t : Name) → top_in s ev ≡ Some t → StartsOf s ev t
starts_of s (event.Start (x ∷ []) k) t is =
    let user = user_of s x k (ap is_some is) in
    record { number = x; body = user.0; starts = ap (event.Start (x ∷ [])) user.1; top = some_same _ _ (sym is ∙ ap (top_by s (x ∷ [])) user.1 ∙ top_some s x user.0) }
starts_of s _ t is = absurd cc
