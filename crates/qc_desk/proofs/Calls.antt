-- What a call under the lock has made of a pass, put together of its look and what it entered.
use Rattle.std.proofs.Common.{◌≡◌, ℕ, length, ◌<◌, ◌≤◌, zero, suc, refl, sym, ap, ◌∙◌, subst, arith, inl, inr}
use Rattle.std.specs.Prelude.{Option, None, Result, Ok, Err, IfErr, IsErrOf, nat_lt, ◌==◌, IsTrue}
use Rattle.std.proofs.lemmas.Bool.{lt-ltb, or_right}
use Rattle.qc_event.specs.Base.{Setting}
use Rattle.qc_event.specs.declared.event.Event.{Event}
use Rattle.qc_event.specs.History.{Past, limit}
use Rattle.qc_event.specs.Legal.{Allowed}
use Rattle.qc_event.specs.Seats.{is_client}
use Rattle.qc_event.specs.Wants.{IsExactWant}
use Rattle.qc_desk.specs.declared.refusal.DeskNo.{DeskNo}
use Rattle.qc_event.specs.declared.short.Short.{Short}
use Rattle.qc_event.specs.declared.short.Short.TheVariants as short
use Rattle.qc_desk.specs.declared.view.View.{View}
use Rattle.qc_desk.specs.Calling.{IsLook, IsEntry, Entered, Refused}
use Rattle.qc_desk.specs.Entries.{IsSince, entry}
use Rattle.qc_desk.specs.Refusing.{Refuses}
use Rattle.qc_desk.specs.Rules.{IsClient, knows, extends}

-- the number of a client's pass is a client's
pub client : (v : View) → IsClient v → IsTrue (is_client v.number)
client v c = by_number v.number c.1
  where
    by_number : (n : ℕ) → (1 ≤ n → 17 < n) → IsTrue (is_client n)
    by_number zero h = refl
    by_number (suc n) h = or_right (suc n == 0) (nat_lt 17 (suc n)) (lt-ltb 17 (suc n) (h (omega arith)))

-- why nothing was appended, where nothing was against it
pub wants : (past : Past) (r : Result (Unit {0}) Short) → (IsErrOf r short.Room → length past ≡ limit) → (length past ≡ limit → IsErrOf r short.Room) → IfErr r (IsExactWant past)
wants past (Ok u) room full = tt
wants past (Err short.Memory) room full = λ is. absurd (let never = full is in cc)
wants past (Err short.Room) room full = room refl

-- what holds of a history and a number still does after a look
pub at_look : (P : Past → ℕ → Type 0) (past now : Past) (v w : View) → IsLook past now v w → P past v.number → P now w.number
at_look P past now v w l h = subst (λ (x : Past × View). P x.0 x.1.number) (λ i. (sym l.0 i, sym l.1 i)) h

-- what may be entered by what was looked up, may be entered after the look
pub after_look : (setting : Setting) (ev : Event) (against : Past → Option DeskNo) (past now here there : Past) (v w : View) (o : Option DeskNo) → IsLook past now v w → here ≡ now → there ≡ now
    → o ≡ against here → (against past ≡ None → Allowed setting past (entry v.number ev)) → o ≡ None → Allowed setting there (entry w.number ev)
after_look setting ev against past now here there v w o l at to is may none =
    subst (λ p. Allowed setting p (entry w.number ev)) (sym to)
    (at_look (λ p n. Allowed setting p (entry n ev)) past now v w l (may (ap against (sym l.0 ∙ sym at) ∙ sym is ∙ none)))

module _ (against : Past → Option DeskNo) (past now : Past) (v w : View) (since : IsSince v.number v.seen past) (look : IsLook past now v w) (o : Option DeskNo) (is : o ≡ against now) where
  pub entered : (ev : Event) (now' : Past) (w' : View) → o ≡ None → IsEntry ev now now' w w' → Entered against ev v w'
  entered ev now' w' none e = (
    past,
    since,
    ap against (sym look.0) ∙ sym is ∙ none,
    e.1 ∙ (λ i. extends (entry (look.1 i).number ev) (look.0 i) (look.1 i)),
  )

  why_is : (why : DeskNo) → Refuses (λ _. o) now why → Refuses against now why
  why_is why (inl failed) = inl (sym is ∙ failed)
  why_is why (inr (none, want)) = inr (sym is ∙ none, want)

  pub refused : (now' : Past) (w' : View) (why : DeskNo) → IsLook now now' w w' → Refuses (λ _. o) now why → Refused against v w' why
  refused now' w' why l h =
      let seen : w' ≡ knows past v = l.1 ∙ (λ i. knows (look.0 i) (look.1 i)) in
      let same : w'.seen ≡ past = ap (λ (x : View). x.seen) seen in (
        (subst (IsSince v.number v.seen) (sym same) since, seen ∙ ap (λ p. knows p v) (sym same)),
        subst (λ p. Refuses against p why) (look.0 ∙ sym same) (why_is why h),
      )
