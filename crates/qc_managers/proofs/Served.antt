-- What one access leaves of the carrier, and what several do.
use Rattle.std.proofs.Common.{◌≡◌, ℕ, ◌≤◌, ◌⊎◌, inl, inr, Bool, true, [], ◌∷◌, ◌++◌, refl, sym, ap, ◌∙◌, subst, arith, append_assoc}
use Rattle.std.specs.Prelude.{All, IsTrue}
use Rattle.std.specs.List.{AllByRecursion}
use Rattle.std.proofs.lemmas.List.Elements.{All-nil, All-append, All-weaker, All-from_recursion}
use Rattle.qc_event.specs.declared.event.Ask.{Ask}
use Rattle.qc_event.specs.declared.event.Cause.TheVariants.{Orphan}
use Rattle.qc_event.specs.declared.event.Entry.{Entry}
use Rattle.qc_event.specs.declared.event.Event.TheVariants as event
use Rattle.qc_event.specs.declared.event.How.TheVariants.{Abort}
use Rattle.qc_event.specs.declared.event.Kind.TheVariants as kind
use Rattle.qc_event.specs.History.{Past, Name, is_child}
use Rattle.qc_event.specs.Manager.{Result, Replied, Missing, BlockedBy}
use Rattle.qc_managers.specs.Carrying.{own_entries, made_by, CarrierView, name_of, entry, began, HasGrown, WasStopped, IsBegun, access_entries}
use Rattle.qc_managers.specs.Going.{HasMade, HasServed}

-- GROWTH

pub grown_none : (others : Entry → Bool) (Names : Name → Type 0) (past : Past) → HasGrown others Names past past
grown_none others Names past = record { newer = []; grown = refl; each = All-nil _ }

pub grown_wider : (others : Entry → Bool) (Names Wider : Name → Type 0) (before now : Past) → ((n : Name) → Names n → Wider n) → HasGrown others Names before now → HasGrown others Wider before now
grown_wider others Names Wider before now wider h =
    record { newer = h.newer; grown = h.grown; each = All-weaker (λ (e : Entry). Names (name_of e.event) ⊎ IsTrue (others e)) (λ (e : Entry). Wider (name_of e.event) ⊎ IsTrue (others e)) each h.newer h.each }
  where
    each : (e : Entry) → Names (name_of e.event) ⊎ IsTrue (others e) → Wider (name_of e.event) ⊎ IsTrue (others e)
    each e (inl named) = inl (wider (name_of e.event) named)
    each e (inr other) = inr other

pub grown_further : (others : Entry → Bool) (Names : Name → Type 0) (past between now : Past) → HasGrown others Names past between → HasGrown others Names between now → HasGrown others Names past now
grown_further others Names past between now first then =
    record {
      newer = then.newer ++ first.newer;
      grown = then.grown ∙ ap (λ p. then.newer ++ p) first.grown ∙ sym (append_assoc then.newer first.newer past);
      each = All-append (λ (e : Entry). Names (name_of e.event) ⊎ IsTrue (others e)) then.newer first.newer then.each first.each;
    }

-- WHAT WAS MADE

abbrev pub OfAccesses : Name → Past → Type 0
OfAccesses m made = All (λ (e : Entry). IsTrue (is_child m (name_of e.event))) made

pub made_none : (m : Name) (past : Past) → HasMade m past past
made_none m past = record { made = []; added = refl; each = All-nil _ }

pub made_further : (m : Name) (past between now : Past) → HasMade m past between → HasMade m between now → HasMade m past now
made_further m past between now first then =
    record {
      made = then.made ++ first.made;
      added = then.added ∙ ap (λ p. then.made ++ p) first.added ∙ sym (append_assoc then.made first.made past);
      each = All-append (λ (e : Entry). IsTrue (is_child m (name_of e.event))) then.made first.made then.each first.each;
    }

module _ (m : Name) (seat : ℕ) (ask : Ask) (child : is_child m ask.access ≡ true) where
  each : (made : Past) → AllByRecursion (λ (e : Entry). IsTrue (is_child m (name_of e.event))) made → OfAccesses m made
  each made h = All-from_recursion (λ (e : Entry). IsTrue (is_child m (name_of e.event))) made h

  pub carried_by : (r : Result) → OfAccesses m (access_entries seat ask r)
  carried_by (Replied tuple) = each (access_entries seat ask (Replied tuple)) (child, (child, (child, tt)))
  carried_by (BlockedBy holder) = each (access_entries seat ask (BlockedBy holder)) (child, (child, (child, tt)))
  carried_by (Missing why) = each (access_entries seat ask (Missing why)) (child, (child, (child, (child, tt))))

  started : Entry
  started = entry seat (event.Start ask.access kind.Access)

  ended : Name → Entry
  ended a = entry seat (event.End ask.access (Abort (Orphan a)))

  pub stopped_by : (a : Name) (made : Past) → WasStopped seat ask a made → OfAccesses m made
  unfolding started ended
  stopped_by a made (inl is) = subst (OfAccesses m) (sym is) (All-nil _)
  stopped_by a made (inr (inl is)) = subst (OfAccesses m) (sym is) (each (ended a ∷ started ∷ []) (child, (child, tt)))
  stopped_by a made (inr (inr is)) = subst (OfAccesses m) (sym is) (each (ended a ∷ began seat ask) (child, (child, (child, tt))))

  pub begun_by : (made : Past) → IsBegun seat ask made → OfAccesses m made
  unfolding started
  begun_by made (inl is) = subst (OfAccesses m) (sym is) (All-nil _)
  begun_by made (inr (inl is)) = subst (OfAccesses m) (sym is) (each (started ∷ []) (child, tt))
  begun_by made (inr (inr (inl is))) = subst (OfAccesses m) (sym is) (each (began seat ask) (child, (child, tt)))
  begun_by made (inr (inr (inr (why, is)))) = subst (OfAccesses m) (sym is) (each (entry seat (event.Gone ask.access why) ∷ began seat ask) (child, (child, (child, tt))))

-- THE CARRIER

pub served_none : (m : Name) (l : CarrierView) → HasServed m l l
served_none m l =
    record { setting = refl; seat = refl; others = refl; grown = grown_none _ _ l.seen; own = made_none m (own_entries l); later = omega arith }

pub served_further : (m : Name) (a b c : CarrierView) → HasServed m a b → HasServed m b c → HasServed m a c
served_further m a b c first then =
    record {
      setting = then.setting ∙ first.setting;
      seat = then.seat ∙ first.seat;
      others = then.others ∙ first.others;
      grown = grown_further a.others (λ n. IsTrue (is_child m n)) a.seen b.seen c.seen first.grown (subst (λ o. HasGrown o (λ n. IsTrue (is_child m n)) b.seen c.seen) first.others then.grown);
      own = made_further m (own_entries a) (own_entries b) (own_entries c) first.own then.own;
      later = omega arith;
    }

-- one access of a carrier for a manager
pub served_once : (m : Name) (a b : CarrierView) (n : Name) → is_child m n ≡ true → b.setting ≡ a.setting → b.seat ≡ a.seat → b.others ≡ a.others → HasGrown a.others (λ x. x ≡ n) a.seen b.seen → HasMade m (own_entries a) (made_by a.seat b.seen) → a.troubles ≤ b.troubles → HasServed m a b
served_once m a b n child setting seat others grown made later =
    record {
      setting = setting;
      seat = seat;
      others = others;
      grown = grown_wider a.others (λ x. x ≡ n) (λ x. IsTrue (is_child m x)) a.seen b.seen (λ x is. ap (is_child m) is ∙ child) grown;
      own = subst (λ s. HasMade m (own_entries a) (made_by s b.seen)) (sym seat) made;
      later = later;
    }
