-- What a mounting writes tells no top, no grant and no base, all of it or some first ones.
use Rattle.std.proofs.Common.{◌≡◌, ℕ, ◌==◌, Bool, true, false, List, [], ◌∷◌, ◌++◌, length, refl, sym, ap, ap₂, ◌∙◌, subst, append-nil}
use Rattle.std.specs.Prelude.{Option, None, Some, if◌then◌else◌}
use Rattle.std.specs.Option.{option_and_then, option_map}
use Rattle.std.specs.List.{All, cons_option, filter_map}
use Rattle.std.proofs.lemmas.List.Elements.{All-nil, All-cons, All-head, All-tail, filter_map-append}
use Rattle.qc_event.specs.declared.table.Table.{Table}
use Rattle.qc_codec.specs.Base.{base_in, copy_base, format_in}
use Rattle.qc_codec.specs.Bodies as body
use Rattle.qc_codec.specs.Copy.{granted_in}
use Rattle.qc_codec.specs.Fields.{some_number}
use Rattle.qc_codec.specs.Form.{all_of}
use Rattle.qc_codec.specs.Ledger.{logged_in, made_for, readings}
use Rattle.qc_codec.specs.declared.past.Logged.{Logged}
use Rattle.qc_codec.specs.declared.record.LedgerRecord.{LedgerRecord}
use Rattle.qc_codec.specs.declared.record.LedgerRecord.TheVariants.{Made, Epoch}
use Rattle.qc_ledger.specs.Image as tops
use Rattle.qc_site.specs.Image as grants
use Rattle.qc_refine.proofs.Restoring.ImageReadings.{made_told}
use Rattle.qc_refine.proofs.Order.DonesWalk.{all_front}

-- WHAT A MOUNTING WRITES

-- the tops that bodies tell
abbrev tops_in : List (List ℕ) → List Logged
tops_in bodies = filter_map logged_in (readings body.ledger bodies)

-- what is taken of a variant that is no top tells none
no_top : {A : Type 0} (to : A → LedgerRecord) → ((a : A) → logged_in (to a) ≡ None) → (taken : Option (A × List ℕ))
    → filter_map logged_in (cons_option (option_and_then (λ (x : LedgerRecord × List ℕ). if length x.1 == 0 then Some x.0 else None) (option_map (λ (x : A × List ℕ). (to x.0, x.1)) taken)) []) ≡ []
no_top to none None = refl
no_top to none (Some x) = by_test (length x.1 == 0)
  where
    by_test : (b : Bool) → filter_map logged_in (cons_option (if b then Some (to x.0) else None) []) ≡ []
    by_test true = ap (λ o. cons_option o []) (none x.0)
    by_test false = refl

-- a body tells no top
abbrev TellsNoTop : List ℕ → Type 0
TellsNoTop bytes = filter_map logged_in (readings body.ledger (bytes ∷ [])) ≡ []

made_no_top : (disk : ℕ) (table : Table) → TellsNoTop (tops.made_body disk table)
unfolding body.ledger
made_no_top disk table = no_top Made (λ m. refl) (body.making.taken (body.making.spell (made_for disk table)))

epoch_no_top : (epoch : ℕ) → TellsNoTop (tops.epoch_body epoch)
unfolding body.ledger
epoch_no_top epoch = no_top Epoch (λ e. refl) (some_number.taken (some_number.spell epoch))

written_no_tops : (disk : ℕ) (table : Table) (found : List (List ℕ)) → All TellsNoTop (tops.to_write disk table found)
written_no_tops disk table [] = All-cons TellsNoTop (tops.made_body disk table) (tops.epoch_body 1 ∷ []) (made_no_top disk table) (All-cons TellsNoTop (tops.epoch_body 1) [] (epoch_no_top 1) (All-nil TellsNoTop))
written_no_tops disk table (first ∷ rest) = All-cons TellsNoTop (tops.epoch_body _) [] (epoch_no_top _) (All-nil TellsNoTop)

all_no_top : (bodies : List (List ℕ)) → All TellsNoTop bodies → tops_in bodies ≡ []
all_no_top [] none = refl
all_no_top (b ∷ bodies) none =
    ap (filter_map logged_in) (filter_map-append (all_of body.ledger) (b ∷ []) bodies)
    ∙ filter_map-append logged_in (readings body.ledger (b ∷ [])) (readings body.ledger bodies)
    ∙ ap₂ (λ (x y : List Logged). x ++ y) (All-head TellsNoTop b bodies none) (all_no_top bodies (All-tail TellsNoTop b bodies none))

-- behind bodies, some first ones of what a mounting writes tell no top
pub same_tops : (disk : ℕ) (table : Table) (found first rest : List (List ℕ)) → tops.to_write disk table found ≡ first ++ rest → tops_in (found ++ first) ≡ tops_in found
same_tops disk table found first rest split =
    ap (filter_map logged_in) (filter_map-append (all_of body.ledger) found first)
    ∙ filter_map-append logged_in (readings body.ledger found) (readings body.ledger first)
    ∙ ap (λ (l : List Logged). tops_in found ++ l) (all_no_top first (all_front TellsNoTop first rest (subst (All TellsNoTop) split (written_no_tops disk table found))))
    ∙ append-nil (tops_in found)

-- nor a grant
pub same_grants : (disk : ℕ) (table : Table) (found first rest : List (List ℕ)) → grants.to_write disk table found ≡ first ++ rest → granted_in table (found ++ first) ≡ granted_in table found
same_grants disk table found [] rest split = ap (granted_in table) (append-nil found)
same_grants disk table [] (b ∷ []) rest split = let same : grants.made_body disk table ≡ b = cc in ap (λ (x : List ℕ). granted_in table (x ∷ [])) (sym same) ∙ made_told (format_in (grants.made_body disk table ∷ [])) table (made_for disk table) []
same_grants disk table [] (b ∷ c ∷ first) rest split = absurd cc
same_grants disk table (x ∷ found) (b ∷ first) rest split = absurd cc

-- nor a base, where none is
pub same_base : (disk : ℕ) (table : Table) (found first rest : List (List ℕ)) → grants.to_write disk table found ≡ first ++ rest → base_in copy_base (found ++ first) ≡ base_in copy_base found
same_base disk table found [] rest split = ap (base_in copy_base) (append-nil found)
same_base disk table [] (b ∷ []) rest split = refl
same_base disk table [] (b ∷ c ∷ first) rest split = absurd cc
same_base disk table (x ∷ found) (b ∷ first) rest split = absurd cc
