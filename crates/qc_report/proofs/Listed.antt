-- Lists of texts with commas between them, one item more.
use Rattle.std.proofs.Common.{◌≡◌, ℕ, ◌+◌, Bool, true, false, List, [], ◌∷◌, ◌++◌, Option, Some, None, map, refl, sym, ap, ◌∙◌, append_assoc, arith}
use Rattle.std.specs.Prelude.{if◌then◌else◌, filter, filter_map, codes}
use Rattle.std.specs.Fmt.{decimal}
use Rattle.std.specs.List.{flat_map, range_with_len, cons_option}
use Rattle.std.proofs.lemmas.List.{append-nil, map-id}
use Rattle.std.proofs.lemmas.List.Elements.{filter_map-append}
use Rattle.std.proofs.lemmas.List.FromFn.{map-range_with_len_more}
use Rattle.std.proofs.lemmas.Grind.{flat_map-append}
use Rattle.qc_config.specs.Copies.{has}
use Rattle.qc_report.specs.Report.{Text, listed, replied_list}

-- texts with commas between them, and nothing where there are none
abbrev pub joined : List Text → Text
joined [] = []
joined (first ∷ texts) = first ++ flat_map (λ t. codes "," ++ t) texts

abbrev pub is_nil : List Text → Bool
is_nil [] = true
is_nil (t ∷ texts) = false

-- what stands before a further item
abbrev pub comma : Bool → Text
comma is_first = if is_first then [] else codes ","

-- what stands for no items
abbrev pub dash : Bool → Text
dash is_empty = if is_empty then codes "-" else []

pub listed_is : (texts : List Text) → joined texts ++ dash (is_nil texts) ≡ listed texts
listed_is [] = refl
listed_is (t ∷ texts) = append-nil (t ++ flat_map (λ t. codes "," ++ t) texts)

joined-more : (texts : List Text) (t : Text) → joined (texts ++ t ∷ []) ≡ (joined texts ++ comma (is_nil texts)) ++ t
joined-more [] t = append-nil t
joined-more (first ∷ texts) t =
    let each : Text → Text = λ x. codes "," ++ x in
    ap (λ x. first ++ x) (flat_map-append each texts (t ∷ []) ∙ ap (λ x. flat_map each texts ++ x) (append-nil (codes "," ++ t)))
    ∙ sym (append_assoc first (flat_map each texts) (codes "," ++ t))
    ∙ sym (append_assoc (first ++ flat_map each texts) (codes ",") t)

-- a page with one item more
pub item_more : (start page : Text) (texts : List Text) (is_first : Bool) (t : Text) → page ≡ start ++ joined texts → is_first ≡ is_nil texts → (page ++ comma is_first) ++ t ≡ start ++ joined (texts ++ t ∷ [])
item_more start page texts is_first t is first =
    ap (λ p. (p ++ comma is_first) ++ t) is
    ∙ ap (λ b. ((start ++ joined texts) ++ comma b) ++ t) first
    ∙ ap (λ p. p ++ t) (append_assoc start (joined texts) (comma (is_nil texts)))
    ∙ append_assoc start (joined texts ++ comma (is_nil texts)) t
    ∙ ap (λ p. start ++ p) (sym (joined-more texts t))

pub not_nil : (texts : List Text) (t : Text) → is_nil (texts ++ t ∷ []) ≡ false
not_nil [] t = refl
not_nil (first ∷ texts) t = refl

-- a page with all items
pub items_end : (start page : Text) (texts : List Text) (is_empty : Bool) → page ≡ start ++ joined texts → is_empty ≡ is_nil texts → page ++ dash is_empty ≡ start ++ listed texts
items_end start page texts is_empty is empty =
    ap (λ p. p ++ dash is_empty) is ∙ ap (λ b. (start ++ joined texts) ++ dash b) empty
    ∙ append_assoc start (joined texts) (dash (is_nil texts)) ∙ ap (λ p. start ++ p) (listed_is texts)

-- COPIES IN ORDER

range_more : (n : ℕ) → range_with_len 0 (n + 1) ≡ range_with_len 0 n ++ n ∷ []
range_more n = sym (map-id (range_with_len 0 (n + 1))) ∙ map-range_with_len_more (λ c. c) 0 n n (omega arith) ∙ ap (λ cs. cs ++ n ∷ []) (map-id (range_with_len 0 n))

-- the items of the copies below a number, where a copy may have one
abbrev pub items_below : (ℕ → Option Text) → ℕ → List Text
items_below item n = filter_map item (range_with_len 0 n)

below_more : (item : ℕ → Option Text) (n : ℕ) → items_below item (n + 1) ≡ items_below item n ++ filter_map item (n ∷ [])
below_more item n = ap (filter_map item) (range_more n) ∙ filter_map-append item (range_with_len 0 n) (n ∷ [])

pub with_item : (item : ℕ → Option Text) (n : ℕ) (t : Text) → item n ≡ Some t → items_below item (n + 1) ≡ items_below item n ++ t ∷ []
with_item item n t is = below_more item n ∙ ap (λ o. items_below item n ++ cons_option o []) is

pub without_item : (item : ℕ → Option Text) (n : ℕ) → item n ≡ None → items_below item (n + 1) ≡ items_below item n
without_item item n is = below_more item n ∙ ap (λ o. items_below item n ++ cons_option o []) is ∙ append-nil (items_below item n)

-- the number of a copy, where it is marked
abbrev pub marked_item : List Bool → ℕ → Option Text
marked_item marks copy = if has marks copy then Some (decimal copy) else None

marked_more : (marks : List Bool) (b : Bool) (c : ℕ) (copies : List ℕ) (rest : List Text) → rest ≡ map decimal (filter (has marks) copies) → cons_option (if b then Some (decimal c) else None) rest ≡ map decimal (if b then c ∷ filter (has marks) copies else filter (has marks) copies)
marked_more marks true c copies rest is = ap (λ ts. decimal c ∷ ts) is
marked_more marks false c copies rest is = is

marked_items : (marks : List Bool) (copies : List ℕ) → filter_map (marked_item marks) copies ≡ map decimal (filter (has marks) copies)
marked_items marks [] = refl
marked_items marks (c ∷ copies) = marked_more marks (has marks c) c copies _ (marked_items marks copies)

pub replied_is : (marks : List Bool) → listed (items_below (marked_item marks) 16) ≡ replied_list marks
replied_is marks = ap listed (marked_items marks (range_with_len 0 16))

-- what a loop keeps after an item
pub item_step : (start page behind now : Text) (item : ℕ → Option Text) (n : ℕ) (is_first : Bool) (t : Text) → item n ≡ Some t → page ≡ start ++ joined (items_below item n) → is_first ≡ is_nil (items_below item n) → behind ≡ page ++ comma is_first → now ≡ behind ++ t → (now ≡ start ++ joined (items_below item (n + 1))) × (false ≡ is_nil (items_below item (n + 1)))
item_step start page behind now item n is_first t is has first comma_is now_is =
    let more = with_item item n t is in (
      now_is ∙ ap (λ p. p ++ t) comma_is ∙ item_more start page (items_below item n) is_first t has first ∙ ap (λ ts. start ++ joined ts) (sym more),
      sym (not_nil (items_below item n) t) ∙ ap is_nil (sym more),
    )
