-- An image of the ledger's disk tells what was found there, the mounting's epoch, and the tops that were committed since.
use Rattle.std.proofs.Common.{◌≡◌, ℕ, ◌<◌, ◌≤◌, ◌^◌, List, [], ◌∷◌, ◌++◌, length, refl, sym, ap, ap₂, ◌∙◌, subst, append_assoc, arith}
use Rattle.std.specs.Prelude.{map, is_some, option_to_list, true}
use Rattle.std.specs.List.{All}
use Rattle.std.proofs.lemmas.List.{length-map, map-append}
use Rattle.std.proofs.lemmas.List.Elements.{All-append, All-head, All-map, All-weaker}
use Rattle.qc_event.specs.declared.table.Table.{Table}
use Rattle.qc_event.specs.Base.{Setting}
use Rattle.qc_event.specs.History.{Name, Past, start, limit}
use Rattle.qc_event.specs.Legal.{Legal}
use Rattle.qc_event.specs.Listed.{listed}
use Rattle.qc_event.specs.Seats.{ledger_seat}
use Rattle.qc_event.proofs.LastNumber.{single_number}
use Rattle.qc_event.proofs.RootAndTops.{ready_started}
use Rattle.qc_codec.specs.Base.{ledger_base}
use Rattle.qc_codec.specs.Bodies as body
use Rattle.qc_codec.specs.Ledger.{made_in, record_of_top}
use Rattle.qc_codec.specs.declared.past.Logged.{Logged}
use Rattle.qc_codec.specs.declared.past.Past.{Past as Logs}
use Rattle.qc_codec.specs.declared.record.LedgerRecord.{LedgerRecord}
use Rattle.qc_codec.specs.declared.record.LedgerRecord.TheVariants.{Epoch, Top}
use Rattle.qc_codec.specs.declared.record.Made.{Made}
use Rattle.qc_journal.specs.Image.{HasRecords}
use Rattle.qc_ledger.specs.Entered.{told_body, tops_of}
use Rattle.qc_desk.specs.Entries.{entries_of}
use Rattle.qc_refine.specs.Listed.{logged, logged_as}
use Rattle.qc_refine.specs.Standing.{AreNext, IsOfEpoch, IsNext}
use Rattle.qc_refine.proofs.Restoring.Actives.{IsLedgerImage}
use Rattle.qc_refine.proofs.Restoring.LoggedTops.{IsLogged, committed_ready, logged_are}
use Rattle.qc_ledger.specs.Since as left
use Rattle.qc_system.specs.Left.{KeepsTops}
use Rattle.qc_opening.proofs.KeptDisks.CopyImages.{or_more}
use Rattle.qc_opening.proofs.KeptDisks.LedgerRecords.{Mounted}
use Rattle.qc_opening.proofs.KeptDisks.Lists.{append_mapped}
use Rattle.qc_refine.proofs.Restoring.ListedNames.{top_fits}
use Rattle.qc_opening.proofs.KeptDisks.LoggedRecords.{bodies_same, logged_same}

-- TOPS THAT MAY COMMIT NEXT

next_as : (past : Past) (t : Name) → left.IsNext past t → IsNext past (logged_as past t)
next_as past t next = let (number, is) = single_number t next.is_top in record { number = number; is_top = is; is_open = next.is_open; ready = next.ready; same_list = refl }

-- at most one more may commit next
are_next : (past : Past) (more : List Name) → All (left.IsNext past) more → length more ≤ 1 → AreNext past (map (logged_as past) more)
are_next past [] next few = tt
are_next past (t ∷ []) next few = (next_as past t (All-head (left.IsNext past) t [] next), tt)
are_next past (t ∷ u ∷ more) next few = absurd (omega (arith, few))

-- RECORDS THAT FIT

module _ (setting : Setting) (past : Past) (epoch : ℕ) (legal : Legal setting past) (few : length past ≤ limit) (of_epoch : IsOfEpoch epoch past) (small : epoch < 2 ^ 32) where
  -- the record of a started top, with what is listed of it, fits
  fits_as : (l : Logged) (number : ℕ) → l.top ≡ number ∷ [] → is_some (start past (number ∷ [])) ≡ true → l.aborted ≡ listed past (number ∷ []) → body.ledger.fits (record_of_top l)
  fits_as l number is_top began same =
      subst (λ (p : Name × List Name). body.ledger.fits (Top p.0 p.1)) (ap₂ (λ (t : Name) (names : List Name). (t, names)) (sym is_top) (sym same))
      (top_fits setting past epoch legal few of_epoch small number began)

  logged_fits : (l : Logged) → IsLogged past l → body.ledger.fits (record_of_top l)
  logged_fits l is = fits_as l is.number is.is_top (ready_started setting past (is.number ∷ []) legal (committed_ready setting past is.number legal is.committed)) is.same_list

  next_fits : (t : Name) → left.IsNext past t → body.ledger.fits (record_of_top (logged_as past t))
  next_fits t next =
      let (number, is) = single_number t next.is_top in
      fits_as (logged_as past t) number is (subst (λ n. is_some (start past n) ≡ true) is next.is_open.started) (ap (listed past) is)

  -- so do those of all that was logged, and of tops that may commit next
  all_fit : (more : List Name) → All (left.IsNext past) more → All body.ledger.fits (map record_of_top (logged past ++ map (logged_as past) more))
  all_fit more next =
      All-map body.ledger.fits record_of_top (logged past ++ map (logged_as past) more)
      (All-append (λ l. body.ledger.fits (record_of_top l)) (logged past) (map (logged_as past) more)
      (All-weaker (IsLogged past) (λ l. body.ledger.fits (record_of_top l)) logged_fits (logged past) (logged_are setting past legal))
      (All-map (λ l. body.ledger.fits (record_of_top l)) (logged_as past) more (All-weaker (left.IsNext past) (λ t. body.ledger.fits (record_of_top (logged_as past t))) next_fits more next)))

  -- AN IMAGE

  module _ (disk : ℕ) (table : Table) (logs : Logs) (records : List (List ℕ)) (m : Mounted disk table logs epoch records) (image : List ℕ) where
    -- What an image tells behind the records of the mounting: the history's tops, and at most one that may commit next.
    pub record Tells : Type 0 where
      pub more : List Logged
      pub next : AreNext past more
      pub at_most_one : length more ≤ 1
      pub is_image : IsLedgerImage table epoch logs.tops (logged past ++ more) disk image

    -- how the disk was made
    abbrev how : Made
    how = made_in m.tells.format disk table

    regrouped : (since : List Logged) → (m.tells.old ++ Epoch epoch ∷ []) ++ map record_of_top since ≡ m.tells.old ++ Epoch epoch ∷ map record_of_top since
    regrouped since = append_assoc m.tells.old (Epoch epoch ∷ []) (map record_of_top since)

    bodies_are : (tops more : List Name) → tops ≡ tops_of (entries_of ledger_seat past) ++ more
        → records ++ map (told_body (listed past)) tops
        ≡ body.made.spell how ∷ (map (ledger_base how).spell (option_to_list m.tells.base) ++ map body.ledger.spell (m.tells.old ++ Epoch epoch ∷ map record_of_top (logged past ++ map (logged_as past) more)))
    bodies_are tops more same =
        let since : map (logged_as past) tops ≡ logged past ++ map (logged_as past) more =
        ap (map (logged_as past)) same
        ∙ map-append (logged_as past) (tops_of (entries_of ledger_seat past)) more
        ∙ ap (λ (l : List Logged). l ++ map (logged_as past) more) (sym (logged_same setting past legal)) in
        ap₂ (λ (a b : List (List ℕ)). a ++ b) m.tells.are (bodies_same past tops ∙ ap (λ (l : List Logged). map body.ledger.spell (map record_of_top l)) since)
        ∙ append_mapped body.ledger.spell (body.made.spell how) (map (ledger_base how).spell (option_to_list m.tells.base)) (m.tells.old ++ Epoch epoch ∷ []) (map record_of_top (logged past ++ map (logged_as past) more))
        ∙ ap (λ (rs : List LedgerRecord). body.made.spell how ∷ (map (ledger_base how).spell (option_to_list m.tells.base) ++ map body.ledger.spell rs)) (regrouped (logged past ++ map (logged_as past) more))

    tells : (tops more : List Name) → tops ≡ tops_of (entries_of ledger_seat past) ++ more → All (left.IsNext past) more → length more ≤ 1 → HasRecords (records ++ map (told_body (listed past)) tops) image → Tells
    tells tops more same next one has = record {
      more = map (logged_as past) more;
      next = are_next past more next one;
      at_most_one = subst (λ n. n ≤ 1) (sym (length-map more (logged_as past))) one;
      is_image = record {
        bodies = records ++ map (told_body (listed past)) tops;
        tells = record {
          format = m.tells.format;
          base = m.tells.base;
          old = m.tells.old;
          made_once = m.tells.made_once;
          old_tops = m.tells.old_tops;
          epochs = m.tells.epochs;
          made_fits = m.tells.made_fits;
          base_fits = m.tells.base_fits;
          fit = subst (All body.ledger.fits) (regrouped (logged past ++ map (logged_as past) more))
              (All-append body.ledger.fits (m.tells.old ++ Epoch epoch ∷ []) (map record_of_top (logged past ++ map (logged_as past) more)) m.tells.fit (all_fit more next));
          are = bodies_are tops more same;
        };
        has = has;
      };
    }

    pub told : (may_leave : List ℕ → Type 0) → may_leave image → KeepsTops records may_leave past → Tells
    told may_leave here keeps =
        let (tops, or, has) = keeps.each image here in
        let m = or_more (tops_of (entries_of ledger_seat past)) keeps.untold (left.IsNext past) tops or keeps.next in
        tells tops m.more m.same m.are m.few has
