-- First tries of branches that a client aborted as orphans: what these aborts tell, and what they leave as it was.
use Rattle.std.proofs.Common.{◌≡◌, ◌⊎◌, inl, inr, Bool, true, false, List, [], ◌∷◌, ◌++◌, length, refl, sym, ap, ◌∙◌, subst, append-nil}
use Rattle.std.specs.Prelude.{Option, None, Some, is_some, slice_get, option_to_list, if◌then◌else◌}
use Rattle.std.specs.List.{AllByRecursion}
use Rattle.std.specs.Option.{option_or}
use Rattle.qc_event.specs.declared.event.Cause.TheVariants as cause
use Rattle.qc_event.specs.declared.event.Entry.{Entry}
use Rattle.qc_event.specs.declared.event.Event.TheVariants as event
use Rattle.qc_event.specs.declared.event.How.{How}
use Rattle.qc_event.specs.declared.event.How.TheVariants.{Abort}
use Rattle.qc_event.specs.History.{Past, Name, earliest, every, start, start_in, end, end_in, is_ready, ready_in, same}
use Rattle.qc_event.proofs.Absent.{if_not}
use Rattle.qc_script.specs.Calls.{by_client}
use Rattle.qc_script.specs.Client.{Client}
use Rattle.qc_interp.specs.Branches.{Branch}
use Rattle.qc_interp.specs.Deeds.{deeds, deed_in}
use Rattle.qc_interp.specs.Follows.{WasOrphan}
use Rattle.qc_interp.specs.Turns.{begun_in}
use Rattle.qc_interp.proofs.Following.Deeds.{Silent, deeds_quiet}
use Rattle.qc_interp.proofs.Listing.Places.{some_same}
use Rattle.qc_event.proofs.Options.{unless_new}

-- the client's abort of the first try of a branch as an orphan, of an ancestor that was aborted
abbrev pub turned_by : Client → Branch → Name → Entry
turned_by d b above = by_client d (event.End b.first (Abort (cause.Orphan above)))

-- The same for branches in order, the latest first, as far as told: of whom each is an orphan, or that it had ended already.
abbrev pub turns_back : Client → List Branch → List (Option Name) → Past
turns_back d [] above = []
turns_back d (b ∷ bs) [] = []
turns_back d (b ∷ bs) (Some a ∷ above) = turns_back d bs above ++ turned_by d b a ∷ []
turns_back d (b ∷ bs) (None ∷ above) = turns_back d bs above

pub none_back : (d : Client) (bs : List Branch) → turns_back d bs [] ≡ []
none_back d [] = refl
none_back d (b ∷ bs) = refl

-- the next in order
pub turned_next : (d : Client) (bs : List Branch) (above : List (Option Name)) (b : Branch) (a : Name) → slice_get bs (length above) ≡ Some b → turns_back d bs (above ++ Some a ∷ []) ≡ turned_by d b a ∷ turns_back d bs above
turned_next d [] above b a at = absurd cc
turned_next d (x ∷ bs) [] b a at = ap (λ l. l ++ turned_by d x a ∷ []) (none_back d bs) ∙ ap (λ (y : Branch). turned_by d y a ∷ []) (some_same x b at)
turned_next d (x ∷ bs) (Some n ∷ above) b a at = ap (λ l. l ++ turned_by d x n ∷ []) (turned_next d bs above b a at)
turned_next d (x ∷ bs) (None ∷ above) b a at = turned_next d bs above b a at

pub passed_next : (d : Client) (bs : List Branch) (above : List (Option Name)) → turns_back d bs (above ++ None ∷ []) ≡ turns_back d bs above
passed_next d [] above = refl
passed_next d (x ∷ bs) [] = none_back d bs
passed_next d (x ∷ bs) (Some n ∷ above) = ap (λ l. l ++ turned_by d x n ∷ []) (passed_next d bs above)
passed_next d (x ∷ bs) (None ∷ above) = passed_next d bs above

-- what is so of each such abort is so of them
pub each_turned : (d : Client) (P : Entry → Type 0) (bs : List Branch) (above : List (Option Name)) → AllByRecursion (λ (b : Branch). (a : Name) → P (turned_by d b a)) bs → AllByRecursion P (turns_back d bs above)
each_turned d P [] above all = tt
each_turned d P (b ∷ bs) [] all = tt
each_turned d P (b ∷ bs) (None ∷ above) all = each_turned d P bs above all.1
each_turned d P (b ∷ bs) (Some a ∷ above) all = last (turns_back d bs above) (each_turned d P bs above all.1)
  where
    last : (es : Past) → AllByRecursion P es → AllByRecursion P (es ++ turned_by d b a ∷ [])
    last [] each = (all.0 a, tt)
    last (e ∷ es) each = (each.0, last es each.1)

-- ENDS ALONE

-- an entry that ends one as an orphan
abbrev pub IsOrphanEnd : Entry → Type 0
IsOrphanEnd e = (n : Name) × (a : Name) × (e.event ≡ event.End n (Abort (cause.Orphan a)))

abbrev pub AreOrphanEnds : Past → Type 0
AreOrphanEnds es = AllByRecursion IsOrphanEnd es

pub all_orphan_ends : (d : Client) (bs : List Branch) (above : List (Option Name)) → AreOrphanEnds (turns_back d bs above)
all_orphan_ends d bs above = each_turned d IsOrphanEnd bs above (each bs)
  where
    each : (xs : List Branch) → AllByRecursion (λ (b : Branch). (a : Name) → IsOrphanEnd (turned_by d b a)) xs
    each [] = tt
    each (b ∷ xs) = (λ a. (b.first, a, refl), each xs)

untold : {Y : Type 0} (f : Entry → Option Y) → ((e : Entry) → IsOrphanEnd e → f e ≡ None) → (es h : Past) → AreOrphanEnds es → earliest f (es ++ h) ≡ earliest f h
untold f quiet [] h ends = refl
untold f quiet (e ∷ es) h ends = unless_new (earliest f (es ++ h)) (f e) (quiet e ends.0) ∙ untold f quiet es h ends.1

unlisted : {Y : Type 0} (f : Entry → Option Y) → ((e : Entry) → IsOrphanEnd e → f e ≡ None) → (es h : Past) → AreOrphanEnds es → every f (es ++ h) ≡ every f h
unlisted f quiet [] h ends = refl
unlisted f quiet (e ∷ es) h ends = ap (λ o. every f (es ++ h) ++ option_to_list o) (quiet e ends.0) ∙ append-nil _ ∙ unlisted f quiet es h ends.1

module _ (es h : Past) (ends : AreOrphanEnds es) where
  pub start_kept : (n : Name) → start (es ++ h) n ≡ start h n
  start_kept n = untold (λ e. start_in n e.seat e.event) (λ e is. ap (start_in n e.seat) is.2) es h ends

  pub ready_kept : (n : Name) → is_ready (es ++ h) n ≡ is_ready h n
  ready_kept n = ap is_some (untold (λ e. ready_in n e.event) (λ e is. ap (ready_in n) is.2) es h ends)

  pub begun_kept : every (λ e. begun_in e.event) (es ++ h) ≡ every (λ e. begun_in e.event) h
  begun_kept = unlisted (λ e. begun_in e.event) (λ e is. ap begun_in is.2) es h ends

  pub deeds_kept : (n : Name) → deeds (es ++ h) n ≡ deeds h n
  deeds_kept n = deeds_quiet n es h (silent es ends)
    where
      silent : (xs : Past) → AreOrphanEnds xs → AllByRecursion (λ (e : Entry). Silent n e.event) xs
      silent [] all = tt
      silent (e ∷ xs) all = (λ past. ap (deed_in past n) all.0.2, silent xs all.1)

-- who was not ended before is an orphan, or not ended
pub orphan_or_none : (n : Name) (es : Past) → AreOrphanEnds es → (end es n ≡ None) ⊎ WasOrphan (end es n)
orphan_or_none n [] ends = inl refl
orphan_or_none n (e ∷ es) ends = by_old (end es n) (orphan_or_none n es ends.1)
  where
    by_test : (b : Bool) → ((if b then Some (Abort (cause.Orphan ends.0.1)) else None) ≡ None) ⊎ WasOrphan (if b then Some (Abort (cause.Orphan ends.0.1)) else None)
    by_test true = inr refl
    by_test false = inl refl

    by_old : (o : Option How) → (o ≡ None) ⊎ WasOrphan o → (option_or o (end_in n e.event) ≡ None) ⊎ WasOrphan (option_or o (end_in n e.event))
    by_old None was = subst (λ x. (x ≡ None) ⊎ WasOrphan x) (sym (ap (end_in n) ends.0.2)) (by_test (same ends.0.0 n))
    by_old (Some how) (inl none) = absurd cc
    by_old (Some how) (inr orphan) = inr orphan

-- those that are not among them have ended as before
pub end_kept : (n : Name) (d : Client) (bs : List Branch) (above : List (Option Name)) (h : Past) → AllByRecursion (λ (b : Branch). same b.first n ≡ false) bs → end (turns_back d bs above ++ h) n ≡ end h n
end_kept n d bs above h others = quiet (turns_back d bs above) (each_turned d (λ e. end_in n e.event ≡ None) bs above (each bs others))
  where
    each : (xs : List Branch) → AllByRecursion (λ (b : Branch). same b.first n ≡ false) xs → AllByRecursion (λ (b : Branch). (a : Name) → end_in n (turned_by d b a).event ≡ None) xs
    each [] all = tt
    each (b ∷ xs) all = (λ a. if_not (same b.first n) (Some (Abort (cause.Orphan a))) all.0, each xs all.1)

    quiet : (es : Past) → AllByRecursion (λ (e : Entry). end_in n e.event ≡ None) es → end (es ++ h) n ≡ end h n
    quiet [] all = refl
    quiet (e ∷ es) all = unless_new (end (es ++ h) n) (end_in n e.event) all.0 ∙ quiet es all.1
