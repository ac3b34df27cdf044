-- What an entry in brief tells stays when the lists beside it grow.
use Rattle.std.proofs.Common.{◌≡◌, ◌<◌, ◌+◌, ℕ, zero, suc, List, [], ◌∷◌, ◌++◌, length, get_or, refl, sym, subst, ap, ap₂, ◌∙◌, append_assoc, append-nil, arith}
use Rattle.std.proofs.lemmas.List.{get_or_append_left, length-append, map-append}
use Rattle.std.specs.Prelude.{map, unwrap_or}
use Rattle.qc_config.specs.declared.tuple.Tuple.{Tuple}
use Rattle.qc_event.specs.declared.event.Entry.{Entry}
use Rattle.qc_event.specs.declared.event.Event.{Event}
use Rattle.qc_event.specs.History.{Name}
use Rattle.qc_config.specs.Val.{Number, text_of}
use Rattle.qc_config.specs.declared.tuple.Op.TheVariants.{PutData, PutConfig}
use Rattle.qc_trail.specs.declared.brief.Brief.{Brief}
use Rattle.qc_trail.specs.declared.brief.Brief.TheVariants as brief_is
use Rattle.qc_trail.specs.declared.brief.BriefEntry.{BriefEntry}
use Rattle.qc_trail.specs.declared.brief.BriefOp.{BriefOp}
use Rattle.qc_trail.specs.declared.brief.BriefOp.TheVariants as op_is
use Rattle.qc_trail.specs.declared.brief.BriefTuple.{BriefTuple}
use Rattle.qc_trail.specs.declared.brief.BriefTuple.TheVariants as tuple_is
use Rattle.qc_trail.specs.declared.rares.Rare.{Rare}
use Rattle.qc_trail.specs.Rare.{no_rare, rare_told}
use Rattle.qc_trail.specs.Told.{Apart, GoesOn, GrowsTo, HasOp, HasText, HasTuple, IsWithin, AreWithin, brief_tuple_at, event_told, name_at, no_tuple, op_told, text_at, told, tuple_at, tuple_told}

-- LISTS THAT GO ON

pub as_is : {A : Type 0} → (xs : List A) → GoesOn xs xs
as_is xs = record { more = []; is = sym (append-nil xs) }

pub by_one : {A : Type 0} → (xs : List A) (x : A) → GoesOn xs (xs ++ x ∷ [])
by_one xs x = record { more = x ∷ []; is = refl }

goes_further : {A : Type 0} → (xs ys zs : List A) → GoesOn xs ys → GoesOn ys zs → GoesOn xs zs
goes_further xs ys zs a b = record { more = a.more ++ b.more; is = b.is ∙ ap (λ l. l ++ b.more) a.is ∙ append_assoc xs a.more b.more }

pub grows_as_is : (a : Apart) → GrowsTo a a
grows_as_is a = record { names = as_is a.names; tuples = as_is a.tuples; texts = as_is a.texts; rares = as_is a.rares }

pub grows_by_name : (a : Apart) (n : Name) → GrowsTo a (record a { names = a.names ++ n ∷ [] })
grows_by_name a n = record { names = by_one a.names n; tuples = as_is a.tuples; texts = as_is a.texts; rares = as_is a.rares }

pub grows_by_tuple : (a : Apart) (t : BriefTuple) → GrowsTo a (record a { tuples = a.tuples ++ t ∷ [] })
grows_by_tuple a t = record { names = as_is a.names; tuples = by_one a.tuples t; texts = as_is a.texts; rares = as_is a.rares }

pub grows_by_text : (a : Apart) (t : List ℕ) → GrowsTo a (record a { texts = a.texts ++ t ∷ [] })
grows_by_text a t = record { names = as_is a.names; tuples = as_is a.tuples; texts = by_one a.texts t; rares = as_is a.rares }

pub grows_by_rare : (a : Apart) (r : Rare) → GrowsTo a (record a { rares = a.rares ++ r ∷ [] })
grows_by_rare a r = record { names = as_is a.names; tuples = as_is a.tuples; texts = as_is a.texts; rares = by_one a.rares r }

pub grows_further : (a b c : Apart) → GrowsTo a b → GrowsTo b c → GrowsTo a c
grows_further a b c f g = record { names = goes_further _ _ _ f.names g.names; tuples = goes_further _ _ _ f.tuples g.tuples; texts = goes_further _ _ _ f.texts g.texts; rares = goes_further _ _ _ f.rares g.rares }

-- WHAT STANDS IN THEM

module _ {A : Type 0} (xs ys : List A) (d : A) (on : GoesOn xs ys) where
  there : (at : ℕ) → at < length xs → get_or ys at d ≡ get_or xs at d
  there at lt = ap (λ l. get_or l at d) on.is ∙ get_or_append_left xs on.more d at lt

  longer : (at : ℕ) → at < length xs → at < length ys
  longer at lt =
      let l : length ys ≡ length xs + length on.more = ap length on.is ∙ length-append xs on.more in
      omega (arith, l, lt)

module _ (a b : Apart) (g : GrowsTo a b) where
  name_later : (at : ℕ) → at < length a.names → name_at b at ≡ name_at a at
  name_later at w = there _ _ [] g.names at w

  pub text_later : (at : ℕ) → at < length a.texts → text_at b at ≡ text_at a at
  text_later at w = ap (λ bytes. unwrap_or (text_of bytes) (Number 0)) (there _ _ [] g.texts at w)

  brief_tuple_later : (at : ℕ) → at < length a.tuples → brief_tuple_at b at ≡ brief_tuple_at a at
  brief_tuple_later at w = there _ _ no_tuple g.tuples at w

  pub has_text_later : (t : BriefTuple) → HasText a t → HasText b t
  has_text_later (tuple_is.Number version number generation config) w = tt
  has_text_later (tuple_is.Text version text generation config) w = longer _ _ [] g.texts text w

  pub tuple_told_later : (t : BriefTuple) → HasText a t → tuple_told b t ≡ tuple_told a t
  tuple_told_later (tuple_is.Number version number generation config) w = refl
  tuple_told_later (tuple_is.Text version text generation config) w = rw (text_later text w) refl

  pub has_tuple_later : (at : ℕ) → HasTuple a at → HasTuple b at
  has_tuple_later at w = record {
    within = longer _ _ no_tuple g.tuples at w.within;
    text = subst (HasText b) (sym (brief_tuple_later at w.within)) (has_text_later (brief_tuple_at a at) w.text);
  }

  pub tuple_later : (at : ℕ) → HasTuple a at → tuple_at b at ≡ tuple_at a at
  tuple_later at w = ap (tuple_told b) (brief_tuple_later at w.within) ∙ tuple_told_later (brief_tuple_at a at) w.text

  has_op_later : (o : BriefOp) → HasOp a o → HasOp b o
  has_op_later op_is.Get w = tt
  has_op_later (op_is.PutData of) w = has_tuple_later of w
  has_op_later (op_is.PutConfig of) w = has_tuple_later of w

  op_later : (o : BriefOp) → HasOp a o → op_told b o ≡ op_told a o
  op_later op_is.Get w = refl
  op_later (op_is.PutData of) w = ap (λ (t : Tuple). PutData t.version t.value) (tuple_later of w)
  op_later (op_is.PutConfig of) w = ap (λ (t : Tuple). PutConfig t.generation t.config) (tuple_later of w)

-- a place within stays within
pub within_later : (a b : Apart) → GrowsTo a b → (e : Brief) → IsWithin a e → IsWithin b e
within_later a b g (brief_is.StartUser name session body) w = longer _ _ [] g.names name w
within_later a b g (brief_is.StartRead name rec) w = longer _ _ [] g.names name w
within_later a b g (brief_is.StartNumber name rec number) w = longer _ _ [] g.names name w
within_later a b g (brief_is.StartText name rec text) w = (longer _ _ [] g.names name w.0, longer _ _ [] g.texts text w.1)
within_later a b g (brief_is.StartAccess name) w = longer _ _ [] g.names name w
within_later a b g (brief_is.AskGet access copy rec) w = longer _ _ [] g.names access w
within_later a b g (brief_is.AskNumber access copy rec version number) w = longer _ _ [] g.names access w
within_later a b g (brief_is.AskText access copy rec version text) w = (longer _ _ [] g.names access w.0, longer _ _ [] g.texts text w.1)
within_later a b g (brief_is.Grant access copy rec op tuple) w =
    record { has_access = longer _ _ [] g.names access w.has_access; has_op = has_op_later a b g op w.has_op; has_tuple = has_tuple_later a b g tuple w.has_tuple }
within_later a b g (brief_is.Ready top) w = longer _ _ [] g.names top w
within_later a b g (brief_is.Commit name) w = longer _ _ [] g.names name w
within_later a b g (brief_is.CommitNumber name number) w = longer _ _ [] g.names name w
within_later a b g (brief_is.CommitText name text) w = (longer _ _ [] g.names name w.0, longer _ _ [] g.texts text w.1)
within_later a b g (brief_is.CommitReply name tuple) w = (longer _ _ [] g.names name w.0, has_tuple_later a b g tuple w.1)
within_later a b g (brief_is.Rare at) w = longer _ _ no_rare g.rares at w

-- and tells the same
pub told_later : (a b : Apart) → GrowsTo a b → (e : Brief) → IsWithin a e → event_told b e ≡ event_told a e
told_later a b g (brief_is.StartUser name session body) w = rw (there _ _ [] g.names name w) refl
told_later a b g (brief_is.StartRead name rec) w = rw (there _ _ [] g.names name w) refl
told_later a b g (brief_is.StartNumber name rec number) w = rw (there _ _ [] g.names name w) refl
told_later a b g (brief_is.StartText name rec text) w = rw (there _ _ [] g.names name w.0, text_later a b g text w.1) refl
told_later a b g (brief_is.StartAccess name) w = rw (there _ _ [] g.names name w) refl
told_later a b g (brief_is.AskGet access copy rec) w = rw (there _ _ [] g.names access w) refl
told_later a b g (brief_is.AskNumber access copy rec version number) w = rw (there _ _ [] g.names access w) refl
told_later a b g (brief_is.AskText access copy rec version text) w = rw (there _ _ [] g.names access w.0, text_later a b g text w.1) refl
told_later a b g (brief_is.Grant access copy rec op tuple) w =
    rw (there _ _ [] g.names access w.has_access, op_later a b g op w.has_op, tuple_later a b g tuple w.has_tuple) refl
told_later a b g (brief_is.Ready top) w = rw (there _ _ [] g.names top w) refl
told_later a b g (brief_is.Commit name) w = rw (there _ _ [] g.names name w) refl
told_later a b g (brief_is.CommitNumber name number) w = rw (there _ _ [] g.names name w) refl
told_later a b g (brief_is.CommitText name text) w = rw (there _ _ [] g.names name w.0, text_later a b g text w.1) refl
told_later a b g (brief_is.CommitReply name tuple) w = rw (there _ _ [] g.names name w.0, tuple_later a b g tuple w.1) refl
told_later a b g (brief_is.Rare at) w = ap rare_told (there _ _ no_rare g.rares at w)

-- ENTRIES IN BRIEF

-- the entries told stay
pub all_told_later : (a b : Apart) → GrowsTo a b → (es : List BriefEntry) → AreWithin a es → map (told b) es ≡ map (told a) es
all_told_later a b g [] w = refl
all_told_later a b g (e ∷ es) w = ap₂ (λ (x : Entry) (xs : List Entry). x ∷ xs)
    (ap (λ (event : Event). record { seat = e.seat; event = event }) (told_later a b g e.event (w 0 e (omega arith))))
    (all_told_later a b g es (λ k d lt. w (suc k) d (omega (arith, lt))))

-- and one more is told behind them
pub one_told_more : (a b : Apart) → GrowsTo a b → (es : List BriefEntry) (e : BriefEntry) → AreWithin a es → map (told b) (es ++ e ∷ []) ≡ map (told a) es ++ told b e ∷ []
one_told_more a b g es e w = map-append (told b) es (e ∷ []) ∙ ap (λ (xs : List Entry). xs ++ told b e ∷ []) (all_told_later a b g es w)

-- the places of all are within
pub one_within_more : (a b : Apart) → GrowsTo a b → (es : List BriefEntry) (e : BriefEntry) → AreWithin a es → IsWithin b e.event → AreWithin b (es ++ e ∷ [])
one_within_more a b g [] e w now zero d lt = now
one_within_more a b g [] e w now (suc k) d lt = absurd (omega (arith, lt))
one_within_more a b g (x ∷ es) e w now zero d lt = within_later a b g x.event (w 0 x (omega arith))
one_within_more a b g (x ∷ es) e w now (suc k) d lt = one_within_more a b g es e (λ i y l. w (suc i) y (omega (arith, l))) now k d (omega (arith, lt))
