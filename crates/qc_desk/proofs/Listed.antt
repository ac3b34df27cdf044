-- A top that is ready stays so, and what is listed of it stays.
use Rattle.std.proofs.Common.{◌≡◌, true, [], ◌∷◌, ◌++◌, refl, sym, ap, ◌∙◌, subst}
use Rattle.std.proofs.lemmas.Bool.{cond-false, false_from_ne_true}
use Rattle.qc_event.specs.declared.event.Entry.{Entry}
use Rattle.qc_event.specs.Base.{Setting}
use Rattle.qc_event.specs.History.{Past, Name, is_ready, ready_in}
use Rattle.qc_event.specs.Legal.{Legal, MayHappen}
use Rattle.qc_event.specs.Listed.{aborted_below, listed}
use Rattle.qc_event.specs.Users.{MayReady}
use Rattle.qc_event.proofs.Booleans.{not_both}
use Rattle.qc_event.proofs.OneEntry.{marking}
use Rattle.qc_event.proofs.StillTold.{some_stays}
use Rattle.qc_desk.specs.Entries.{IsOlder}

pub ready_stays : (before now : Past) (top : Name) → IsOlder before now → is_ready before top ≡ true → is_ready now top ≡ true
ready_stays before now top older ready = subst (λ (p : Past). is_ready p top ≡ true) (sym older.1) (some_stays (λ e. ready_in top e.event) older.0 before ready)

-- no entry makes it ready again
listed_once : (setting : Setting) (e : Entry) (past : Past) (top : Name) → Legal setting (e ∷ past) → is_ready past top ≡ true → listed (e ∷ past) top ≡ listed past top
listed_once setting e past top legal ready = cond-false _ (aborted_below past top) (listed past top) (false_from_ne_true _ (λ again.
    let may : MayReady past e.seat top = subst (MayHappen setting past e.seat) (marking top e.event again) legal.1 in
    not_both (is_ready past top) may.not_ready ready))

pub listed_stays : (setting : Setting) (before now : Past) (top : Name) → IsOlder before now → Legal setting now → is_ready before top ≡ true → listed now top ≡ listed before top
listed_stays setting before now top older legal ready = ap (λ (p : Past). listed p top) older.1 ∙ stays older.0 (subst (Legal setting) older.1 legal)
  where
    stays : (newer : Past) → Legal setting (newer ++ before) → listed (newer ++ before) top ≡ listed before top
    stays [] legal = refl
    stays (e ∷ newer) legal = listed_once setting e (newer ++ before) top legal (some_stays (λ x. ready_in top x.event) newer before ready) ∙ stays newer legal.0
