-- What an entry is of tells what becomes of an index, and whether a name is an access.
use Rattle.std.proofs.Common.{◌≡◌, ℕ, List, reverse, Bool, true, false, refl, ap, sym, ◌∙◌}
use Rattle.std.specs.Prelude.{Option, None, Some, is_some, option_and_then, slice_get, if◌then◌else◌}
use Rattle.std.specs.Option.{option_map}
use Rattle.std.proofs.lemmas.List.{reverse-reverse}
use Rattle.std.proofs.lemmas.Option.{same_Some}
use Rattle.qc_config.specs.declared.tuple.Op.{Op}
use Rattle.qc_config.specs.declared.tuple.Op.TheVariants as op
use Rattle.qc_event.specs.Clear.{is_get}
use Rattle.qc_event.specs.declared.event.Entry.{Entry}
use Rattle.qc_event.specs.declared.event.Event.{Event}
use Rattle.qc_event.specs.declared.event.Event.TheVariants as event
use Rattle.qc_event.specs.declared.event.Grant.{Grant}
use Rattle.qc_event.specs.declared.event.Kind.{Kind}
use Rattle.qc_event.specs.declared.event.Kind.TheVariants as kind
use Rattle.qc_event.specs.History.{Begun, Name, kind_of, same, start, start_in}
use Rattle.qc_trail.specs.declared.outline.Outline.{Outline}
use Rattle.qc_trail.specs.declared.outline.Outline.TheVariants as outline
use Rattle.qc_trail.specs.Outline.{op_outline, kind_outline, outline_of}
use Rattle.qc_history.specs.Grants.{grant_of, put_at}
use Rattle.qc_history.specs.Looking.{is_of_access}
use Rattle.qc_trail.proofs.Outlined.{outlined}
use Rattle.qc_history.specs.Places.{IsWhere}

-- PUTS

put_op : (o : Op) (x : Outline) → x ≡ op_outline o → x ≡ outline.Put → is_get o ≡ false
put_op op.Get x is put = absurd cc
put_op (op.PutData version value) x is put = refl
put_op (op.PutConfig generation config) x is put = refl

get_op : (o : Op) (x : Outline) → x ≡ op_outline o → (x ≡ outline.Put → ⊥) → is_get o ≡ true
get_op op.Get x is other = refl
get_op (op.PutData version value) x is other = absurd (other is)
get_op (op.PutConfig generation config) x is other = absurd (other is)

granted : (e : Event) (g : Grant) → grant_of e ≡ Some g → outline_of e ≡ op_outline g.op
granted (event.Granted copy grant) g is = ap (λ (h : Grant). op_outline h.op) (same_Some grant g is)
granted (event.Start n k) g is = absurd cc
granted (event.Ask ask) g is = absurd cc
granted (event.Gone access why) g is = absurd cc
granted (event.Refused access copy refusal) g is = absurd cc
granted (event.Unable access why) g is = absurd cc
granted (event.Mark by session) g is = absurd cc
granted (event.Ready top) g is = absurd cc
granted (event.End n how) g is = absurd cc

pub put_there : (given : List Grant) (index : ℕ) (e : Event) (g : Grant) (x : Outline) → grant_of e ≡ Some g → x ≡ outline_of e → x ≡ outline.Put → slice_get given index ≡ Some g → Some g ≡ put_at given index
put_there given index e g x is of put there =
    sym (ap (λ b. if b then None else Some g) (put_op g.op x (of ∙ granted e g is) put)) ∙ ap (option_and_then (λ (h : Grant). if is_get h.op then None else Some h)) (sym there)

pub no_put_there : (given : List Grant) (index : ℕ) (e : Event) (g : Grant) (x : Outline) → grant_of e ≡ Some g → x ≡ outline_of e → (x ≡ outline.Put → ⊥) → slice_get given index ≡ Some g → None ≡ put_at given index
no_put_there given index e g x is of other there =
    sym (ap (λ b. if b then None else Some g) (get_op g.op x (of ∙ granted e g is) other)) ∙ ap (option_and_then (λ (h : Grant). if is_get h.op then None else Some h)) (sym there)

-- ACCESSES

-- whether it is the start of an access
abbrev pub starts_access : Outline → Bool
starts_access (outline.StartAccess n) = true
starts_access _ = false

by_kind : (n m : Name) (seat : ℕ) (k : Kind) → is_some (start_in n seat (event.Start m k)) ≡ true → starts_access (kind_outline m k) ≡ is_of_access (option_map (λ (b : Begun). b.kind) (start_in n seat (event.Start m k)))
by_kind n m seat k some = by_name (same m n) refl
  where
    by_name : (b : Bool) → same m n ≡ b → starts_access (kind_outline m k) ≡ is_of_access (option_map (λ (b : Begun). b.kind) (start_in n seat (event.Start m k)))
    by_name true here = of_kind k ∙ sym (ap (λ (b : Bool). is_of_access (option_map (λ (b : Begun). b.kind) (if b then Some (let s : Begun = record { seat = seat; kind = k } in s) else None))) here)
      where
        of_kind : (k : Kind) → starts_access (kind_outline m k) ≡ is_of_access (Some k)
        of_kind kind.Access = refl
        of_kind (kind.User session body) = refl
        of_kind (kind.Read rec) = refl
        of_kind (kind.Write rec value) = refl
        of_kind (kind.Reconf rec config) = refl
    by_name false other = absurd (none_there (ap (λ (b : Bool). is_some (if b then Some (let s : Begun = record { seat = seat; kind = k } in s) else None)) (sym other) ∙ some))
      where
        none_there : false ≡ true → ⊥
        none_there h = cc

-- what the start of a name is of tells whether it is an access
pub tells_access : (n : Name) (seat : ℕ) (e : Event) → is_some (start_in n seat e) ≡ true → starts_access (outline_of e) ≡ is_of_access (option_map (λ (b : Begun). b.kind) (start_in n seat e))
tells_access n seat (event.Start m k) some = by_kind n m seat k some
tells_access n seat (event.Ask ask) some = absurd cc
tells_access n seat (event.Gone access why) some = absurd cc
tells_access n seat (event.Granted copy grant) some = absurd cc
tells_access n seat (event.Refused access copy refusal) some = absurd cc
tells_access n seat (event.Unable access why) some = absurd cc
tells_access n seat (event.Mark by session) some = absurd cc
tells_access n seat (event.Ready top) some = absurd cc
tells_access n seat (event.End m how) some = absurd cc

pub access_told : (entries : List Entry) (n : Name) (at : ℕ) (o : Outline) → IsWhere (λ (e : Entry). start_in n e.seat e.event) (reverse entries) (Some at)
    → option_map (λ (e : Entry). outline_of e.event) (slice_get entries at) ≡ Some o → starts_access o ≡ is_of_access (kind_of (reverse entries) n)
access_told entries n at o is of =
    let here = outlined entries at o of in
    let e = here.entry in
    let there : start_in n e.seat e.event ≡ start (reverse entries) n = is.there at e refl (ap (λ xs. slice_get xs at) (reverse-reverse entries) ∙ here.there) in
    ap starts_access here.is
    ∙ tells_access n e.seat e.event (ap is_some there ∙ sym is.same)
    ∙ ap (λ (b : Option Begun). is_of_access (option_map (λ (x : Begun). x.kind) b)) there

pub no_access_told : (o : Outline) → ((n : Name) → o ≡ outline.StartAccess n → ⊥) → false ≡ starts_access o
no_access_told (outline.StartAccess n) other = absurd (other n refl)
no_access_told (outline.Start n) other = refl
no_access_told outline.Put other = refl
no_access_told (outline.Ready n) other = refl
no_access_told (outline.Commit n) other = refl
no_access_told (outline.Abort n) other = refl
no_access_told outline.Other other = refl
