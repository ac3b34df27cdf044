-- An image of a copy's disk tells what was found there, and what the copy granted since.
use Rattle.std.proofs.Common.{◌≡◌, inl, inr, ℕ, ◌≤◌, List, [], ◌∷◌, ◌++◌, length, refl, sym, ap₂, ◌∙◌, subst, append-nil, arith}
use Rattle.std.specs.Prelude.{map, is_some, true, Option, None, Some, IfSome, MatchOption, option_to_list}
use Rattle.std.specs.List.{All}
use Rattle.std.proofs.lemmas.List.Elements.{All-nil, All-cons, All-append, All-weaker}
use Rattle.qc_config.specs.declared.tuple.Tuple.{Tuple}
use Rattle.qc_event.specs.declared.event.Grant.{Grant}
use Rattle.qc_event.specs.declared.table.Table.{Table}
use Rattle.qc_event.specs.Base.{Setting}
use Rattle.qc_event.specs.Grants.{MayGrant}
use Rattle.qc_event.specs.History.{Asked, Past, asked, grants}
use Rattle.qc_event.specs.Seats.{copy_seat}
use Rattle.qc_codec.specs.Base.{current_copy_base}
use Rattle.qc_codec.specs.Bodies as body
use Rattle.qc_codec.specs.Copy.{grant_form}
use Rattle.qc_codec.specs.Fields.{current}
use Rattle.qc_codec.specs.Ledger.{made_for}
use Rattle.qc_journal.specs.Image.{HasRecords}
use Rattle.qc_refine.specs.Images.{IsCopyBodies, IsCopyImage}
use Rattle.qc_refine.specs.Standing.{IsAskedOf, IsUntold}
use Rattle.qc_site.specs.Back.{grant_body}
use Rattle.qc_ledger.specs.Since.{OrMore}
use Rattle.qc_system.specs.Left.{KeepsGrants}
use Rattle.qc_refine.proofs.Order.DonesWalk.{all_front}
use Rattle.qc_opening.proofs.KeptDisks.Lists.{append_mapped}

-- of one more that may stand behind some, what stands there
pub record More {A : Type 0} (these : List A) (one : Option A) (P : A → Type 0) (all : List A) : Type 0 where
  pub more : List A
  pub same : all ≡ these ++ more
  pub are : All P more
  pub few : length more ≤ 1

pub or_more : {A : Type 0} (these : List A) (one : Option A) (P : A → Type 0) (all : List A) → OrMore these one all → IfSome one P → More these one P all
or_more these one P all (inl none) is = record { more = []; same = none ∙ sym (append-nil these); are = All-nil P; few = omega arith }
or_more these None P all (inr same) is = record { more = []; same = same; are = All-nil P; few = omega arith }
or_more these (Some x) P all (inr same) is = record { more = x ∷ []; same = same; are = All-cons P x [] is (All-nil P); few = omega arith }

-- these and what stands there fit, where these and the one do
pub fit_more : {A : Type 0} (P : A → Type 0) (these : List A) (one : Option A) (all : List A) → All P (these ++ option_to_list one) → OrMore these one all → All P all
fit_more P these one all fit (inl none) = subst (All P) (sym none) (all_front P these (option_to_list one) fit)
fit_more P these one all fit (inr same) = subst (All P) (sym same) fit

-- a grant that may be made is untold
untold_grant : (setting : Setting) (past : Past) (copy : ℕ) (g : Grant) → MayGrant setting past (copy_seat copy) copy g → IsUntold past g
untold_grant setting past copy g may = record { asked = has_asked (asked past g.access) may.request; not_granted = may.first_time }
  where
    has_asked : (o : Option Asked) → MatchOption o ⊥ (λ a. a.ask ≡ record { access = g.access; copy = copy; rec = g.rec; op = g.op }) → is_some o ≡ true
    has_asked None is = absurd is
    has_asked (Some a) is = refl

-- AN IMAGE

module _ (setting : Setting) (table : Table) (copies copy disk : ℕ) (before : List (List ℕ)) (begin : List Tuple) (old : List Grant) (past : Past) (image : List ℕ) where
  -- What an image of this disk tells behind older grants: the copy's grants of the history, and at most one that is untold.
  pub record Tells : Type 0 where
    pub untold : List Grant
    pub are : All (IsUntold past) untold
    pub few : length untold ≤ 1
    pub asked : All (IsAskedOf past copy) untold
    pub is_image : IsCopyImage table begin (old ++ (grants past copy ++ untold)) disk image

  module _ (copies_are : copies ≡ table.copies) (are : IsCopyBodies table begin old disk before) where
    bodies_are : (given : List Grant) → before ++ map (grant_body copies) given ≡ body.made.spell (made_for disk table) ∷ (map (current_copy_base table).spell (option_to_list are.base) ++ map (grant_form table).spell (old ++ given))
    bodies_are given =
        ap₂ (λ (b : List (List ℕ)) (n : ℕ). b ++ map (grant_body n) given) are.are copies_are
        ∙ append_mapped (grant_form table).spell (body.made.spell (made_for disk table)) (map (current_copy_base table).spell (option_to_list are.base)) old given

    tells : (given more : List Grant) → given ≡ grants past copy ++ more → All (MayGrant setting past (copy_seat copy) copy) more → length more ≤ 1 → All (body.grant (current copies)).fits given → HasRecords (before ++ map (grant_body copies) given) image → Tells
    tells given more same may few fits has = record {
      untold = more;
      are = All-weaker (MayGrant setting past (copy_seat copy) copy) (IsUntold past) (untold_grant setting past copy) more may;
      few = few;
      asked = All-weaker (MayGrant setting past (copy_seat copy) copy) (IsAskedOf past copy) (λ g is. is.request) more may;
      is_image = subst (λ (gs : List Grant). IsCopyImage table begin (old ++ gs) disk image) same (record {
        bodies = before ++ map (grant_body copies) given;
        tells = record {
          base = are.base;
          begin_is = are.begin_is;
          made_fits = are.made_fits;
          base_fits = are.base_fits;
          grants_fit = All-append (grant_form table).fits old given are.grants_fit (subst (λ (n : ℕ). All (body.grant (current n)).fits given) copies_are fits);
          are = bodies_are given;
        };
        has = has;
      });
    }

    pub told : (left : List ℕ → Type 0) → left image → KeepsGrants setting copies copy before left past → Tells
    told left here keeps =
        let (given, or, has) = keeps.each image here in
        let m = or_more (grants past copy) keeps.untold (MayGrant setting past (copy_seat copy) copy) given or keeps.may in
        tells given m.more m.same m.are m.few (fit_more (body.grant (current copies)).fits (grants past copy) keeps.untold given keeps.fit or) has
