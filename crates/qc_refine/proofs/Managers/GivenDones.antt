-- Below the root and below a user transaction, what the managers that are done were given is what it was given.
use Rattle.std.proofs.Common.{◌≡◌, ℕ, Bool, true, false, List, [], ◌∷◌, ◌++◌, refl, sym, ap, ap₂, ◌∙◌, subst, inl, inr, arith, append-nil}
use mathlib.Core.Bool.{true≢false}
use Rattle.std.specs.Prelude.{Option, None, Some, is_some, MatchOption, filter, if◌then◌else◌}
use Rattle.std.specs.Option.{option_map, option_or}
use Rattle.std.specs.List.{flat_map}
use Rattle.std.proofs.lemmas.Bool.{false_from_ne_true}
use Rattle.std.proofs.lemmas.Grind.{flat_map-append}
use Rattle.std.proofs.lemmas.Option.{same_Some}
use Rattle.qc_names.specs.Name.{is_ancestor}
use Rattle.qc_event.specs.declared.event.Answer.{Answer}
use Rattle.qc_event.specs.declared.event.Entry.{Entry}
use Rattle.qc_event.specs.declared.event.Event.{Event}
use Rattle.qc_event.specs.declared.event.Event.TheVariants as event
use Rattle.qc_event.specs.declared.event.Grant.{Grant}
use Rattle.qc_event.specs.declared.event.How.TheVariants.{Commit, Abort}
use Rattle.qc_event.specs.declared.event.Kind.{Kind}
use Rattle.qc_event.specs.declared.event.Kind.TheVariants as kind
use Rattle.qc_event.specs.Base.{Setting}
use Rattle.qc_event.specs.Dead.{ancestors}
use Rattle.qc_event.specs.Grants.{MayGrant}
use Rattle.qc_event.specs.History.{Past, Name, Begun, Given, start, start_in, same, is_child, kind_of}
use Rattle.qc_event.specs.Legal.{Legal, MayHappen}
use Rattle.qc_event.specs.Standing.{IsUser, IsManager, Started}
use Rattle.qc_event.specs.Users.{MayStartTop}
use Rattle.qc_event.proofs.Absent.{same_is}
use Rattle.qc_event.proofs.LastNumber.{child_last, rest_of}
use Rattle.qc_event.proofs.Lawful.{Lawful, lawful}
use Rattle.qc_event.proofs.LegalOrderly.{legal_orderly}
use Rattle.qc_event.proofs.Lineage.{above_user}
use Rattle.qc_event.proofs.OneEntry.{Starting, first_is, starting, start_is}
use Rattle.qc_event.proofs.Orderly.{Belongs}
use Rattle.qc_event.proofs.KindsApart.{user_or_manager}
use Rattle.qc_serial.specs.Serial.{IsUserOf}
use Rattle.qc_serial.specs.Visible.{served, given_in, served_order}
use Rattle.qc_serial.specs.Walk.{is_open_or_root}
use Rattle.qc_serial.proofs.Above.{Each, each_ancestor}
use Rattle.qc_serial.proofs.Accesses.{asked_access, grant_asked}
use Rattle.qc_refine.specs.InTurn.{Done, given_to}
use Rattle.qc_refine.specs.Turns.{done_by, done_in, dones, dones_order}
use Rattle.qc_refine.proofs.Managers.AloneServed.{commits_started}
use Rattle.qc_refine.proofs.Managers.KindsBelow.{below}

-- WHO STANDS BELOW

-- the name is a user transaction, if it was started
abbrev pub IsUserIf : Past → Name → Type 0
IsUserIf past n = (b : Begun) → start past n ≡ Some b → IsUser b.kind

user_before : (e : Entry) (past : Past) (n : Name) → IsUserIf (e ∷ past) n → IsUserIf past n
user_before e past n has b is = has b (ap (λ o. option_or o (start_in n e.seat e.event)) is)

not_access : (k : Kind) → IsUser k → k ≡ kind.Access → ⊥
not_access k user is = subst IsUser is user

-- a top is a user transaction
top_user : (setting : Setting) (past : Past) (j : ℕ) → Legal setting past → IsUserIf past (j ∷ [])
top_user setting [] j legal b is = absurd cc
top_user setting (e ∷ past) j legal b is = elim (first_is (start past (j ∷ [])) (start_in (j ∷ []) e.seat e.event) b is) [
  | inl old ↦ top_user setting past j legal.0 b old
  | inr new ↦ began new.0 (starting (j ∷ []) e.seat e.event (ap is_some new.1))
]
  where
    began : start past (j ∷ []) ≡ None → Starting (j ∷ []) e.event → IsUser b.kind
    began none (k, at) =
        let same_begun : record { seat = e.seat; kind = k } ≡ b = same_Some (record { seat = e.seat; kind = k }) b (sym (start_is e past (j ∷ []) k none at) ∙ is) in
        let may : MayStartTop past e.seat j k = subst (MayHappen setting past e.seat) at legal.1 in
        subst (λ (x : Begun). IsUser x.kind) same_begun may.user

-- no access stands below the root or a user transaction
no_access : (setting : Setting) (past : Past) (n c : Name) (b : Begun) → Legal setting past → IsUserIf past n → is_child n c ≡ true → start past c ≡ Some b → b.kind ≡ kind.Access → ⊥
no_access setting past [] c b legal user is began access = at_top (child_last [] c is)
  where
    at_top : (j : ℕ) × (c ≡ j ∷ []) → ⊥
    at_top (j, last) = not_access b.kind (top_user setting past j legal b (ap (start past) (sym last) ∙ began)) access
no_access setting past (x ∷ n) c b legal user is began access =
    let u = below past (x ∷ n) c (lawful past (legal_orderly setting past legal)) (omega arith) is (ap is_some began) in
    let same_child : u.child ≡ b = same_Some u.child b (sym u.child_start ∙ began) in
    let under : IsManager u.parent.kind = subst (Belongs u.parent) (ap (λ (y : Begun). y.kind) same_child ∙ access) u.belongs in
    user_or_manager u.parent.kind (user u.parent u.parent_start) under

-- no grant is the own of the root or of a user transaction
no_grant : (setting : Setting) (past : Past) (seat copy : ℕ) (g : Grant) (n : Name) → Legal setting past → IsUserIf past n → MayGrant setting past seat copy g → same g.access n ≡ false
no_grant setting past seat copy g n legal user may = false_from_ne_true (same g.access n) (λ here. own (same_is g.access n here))
  where
    by_start : (o : Option Begun) → start past n ≡ o → MatchOption o ⊥ (λ b. b.kind ≡ kind.Access) → ⊥
    by_start None is access = access
    by_start (Some b) is access = not_access b.kind (user b is) access

    own : g.access ≡ n → ⊥
    own is = by_start (start past n) refl (subst (λ m. Started past m (λ b. b.kind ≡ kind.Access)) is (asked_access setting past g.access legal (grant_asked setting past seat copy g may)).started)

-- ONE ENTRY

given_by : (k : Kind) (told : Answer) (gs : List Given) (ds : List Done) → (k ≡ kind.Access → ⊥) → (IsUser k → given_to ds ≡ gs) → given_to (done_by (Some k) told gs ds) ≡ gs
given_by (kind.User session body) told gs ds other inner = inner tt
given_by (kind.Read rec) told gs ds other inner = append-nil gs
given_by (kind.Write rec value) told gs ds other inner = append-nil gs
given_by (kind.Reconf rec config) told gs ds other inner = append-nil gs
given_by kind.Access told gs ds other inner = absurd (other refl)

module _ (setting : Setting) (past : Past) (n c : Name) (told : Answer) (legal : Legal setting past) (user : IsUserIf past n) (inner : IsUserIf past c → given_to (dones past c) ≡ served past c) where
  given_child : is_child n c ≡ true → (o : Option Begun) → start past c ≡ o → is_some o ≡ true → given_to (done_by (option_map (λ (b : Begun). b.kind) o) told (served past c) (dones past c)) ≡ served past c
  given_child is None at began = absurd (true≢false (sym began))
  given_child is (Some b) at began =
      given_by b.kind told (served past c) (dones past c) (no_access setting past n c b legal user is at)
      (λ u. inner (λ x here. subst (λ (y : Begun). IsUser y.kind) (same_Some b x (sym at ∙ here)) u))

  given_end : (b : Bool) → is_child n c ≡ b → is_some (start past c) ≡ true → given_to (if b then done_by (kind_of past c) told (served past c) (dones past c) else []) ≡ (if b then served past c else [])
  given_end true is began = given_child is (start past c) refl began
  given_end false is began = refl

given_entry : (setting : Setting) (past : Past) (e : Entry) (n : Name) (ev : Event) → e.event ≡ ev → Legal setting (e ∷ past) → IsUserIf past n → ((c : Name) → IsUserIf past c → given_to (dones past c) ≡ served past c)
    → given_to (done_in past (dones past) n ev) ≡ given_in (served past) n ev
given_entry setting past e n (event.Granted copy grant) is legal user inner =
    sym (ap (λ (b : Bool). if b then record { copy = copy; grant = grant } ∷ [] else []) (no_grant setting past e.seat copy grant n legal.0 user (subst (MayHappen setting past e.seat) is legal.1)))
given_entry setting past e n (event.End c (Commit told)) is legal user inner =
    given_end setting past n c told legal.0 user (inner c) (is_child n c) refl (commits_started setting past e c told legal is)
given_entry setting past e n (event.End c (Abort cause)) is legal user inner = refl
given_entry setting past e n _ is legal user inner = refl

-- what the managers done below a user transaction were given
pub given_dones : (setting : Setting) (past : Past) (n : Name) → Legal setting past → IsUserIf past n → given_to (dones past n) ≡ served past n
given_dones setting [] n legal user = refl
given_dones setting (e ∷ past) n legal user =
    let before = user_before e past n user in
    flat_map-append (λ (d : Done). d.given) (dones past n) (done_in past (dones past) n e.event)
    ∙ ap₂ (λ xs ys. xs ++ ys) (given_dones setting past n legal.0 before)
    (given_entry setting past e n e.event refl legal before (λ c has. given_dones setting past c legal.0 has))

-- THE ORDER OF A TRANSACTION

user_if : (past : Past) (n : Name) → Lawful past → IsUserOf past n → IsUserIf past n
user_if past [] law user b is = absurd (let none = law.no_root_start in let differ = sym none ∙ is in cc)
user_if past (x ∷ n) law user b is = subst (λ o. MatchOption o ⊥ (λ (y : Begun). IsUser y.kind)) is user

-- each ancestor of a user transaction is one, or the root
ancestor_user : (past : Past) (t a : Name) → Lawful past → IsUserOf past t → is_ancestor a t ≡ true → IsUserIf past a
ancestor_user past t [] law user up = user_if past [] law tt
ancestor_user past t (x ∷ a) law user up =
    let rest = rest_of (x ∷ a) t up in
    user_if past (x ∷ a) law (above_user past (x ∷ a) rest.0 law (omega arith) (subst (IsUserOf past) rest.1 user))

pub given_order : (setting : Setting) (past : Past) (t : Name) → Legal setting past → IsUserOf past t → given_to (dones_order past t) ≡ served_order past t
given_order setting past t legal user = through (ancestors t) (each_ancestor (IsUserIf past) t (λ a up. ancestor_user past t a (lawful past (legal_orderly setting past legal)) user up))
  where
    one_more : (b : Bool) (n : Name) (names : List Name) → IsUserIf past n → given_to (flat_map (dones past) names) ≡ flat_map (served past) names
        → given_to (flat_map (dones past) (if b then n ∷ names else names)) ≡ flat_map (served past) (if b then n ∷ names else names)
    one_more true n names has rest =
        flat_map-append (λ (d : Done). d.given) (dones past n) (flat_map (dones past) names)
        ∙ ap₂ (λ xs ys. xs ++ ys) (given_dones setting past n legal has) rest
    one_more false n names has rest = rest

    through : (names : List Name) → Each (IsUserIf past) names → given_to (flat_map (dones past) (filter (is_open_or_root past) names)) ≡ flat_map (served past) (filter (is_open_or_root past) names)
    through [] all = refl
    through (n ∷ names) all = one_more (is_open_or_root past n) n (filter (is_open_or_root past) names) all.0 (through names all.1)
