-- What the disks told that the shop gave, it offered.
use Rattle.std.proofs.Common.{rules, ℕ, ◌≡◌, ◌≢◌, ◌⊎◌, ◌++◌, List, map, ap, sym, subst, inr, ◌∙◌}
use Rattle.std.specs.Prelude.{All, IsOk}
use Rattle.qc_disk.specs.Shop.{disks_of_place}
use Rattle.qc_codec.specs.declared.image.BadImage.{BadImage}
use Rattle.qc_event.specs.Standing.{HasEnded}
use Rattle.qc_event.specs.Tables.{base_of}
use Rattle.qc_opening.specs.Images.{IsFirstFault}
use Rattle.qc_opening.specs.Obtained.{IsNotGiven}
use Rattle.qc_opening.specs.Refusing.{disks_in, reason_in, AreLeft, ComeBack, IsFaultOf, IsNotMounted, IsReasonAmong, TellImages}
use Rattle.qc_opening.proofs.Mountings.Disks.{tell}
use Rattle.qc_opening.proofs.Mountings.Refused.{come_back, fault_of, given_back, not_mounted}
use Rattle.qc_opening.proofs.Mountings.Stores.{by_err, if_err, if_ok}
use Rattle.qc_refine.specs.Pairs.{RestoreInPairs, StandInPairsWithin}
use Rattle.qc_script.specs.Reading.{IsProper}
use Rattle.qc_script.specs.Steps.{plan_of_script}
use Rattle.qc_opening.specs.Disks.{by_place, first_numbers, told_by}
use Rattle.qc_opening.specs.Parts.{counted_by}
use Rattle.qc_opening.specs.SinceFolds.{SinceFolds}
use Rattle.qc_opening.specs.Stored.{disks_of, past_of, AreImages, HasKept, HasRun, HaveGrown, HavePaid, UnablesHadCause, WereFolded}
use Rattle.qc_opening.proofs.Grown.{had_cause, have_grown}
use Rattle.qc_opening.proofs.Told.{all_returned, counted_at, error_returned, first, folded, kept, paid, restored, stands, tell_offered}
use Rattle.qc_opening.proofs.ShownNow.{shown_as_much, shown_now, shown_since}
use Rattle.qc_opening.proofs.opening.run_stored.Goals as goal

pub returns-in_err-disks-clause-disks : goal.returns-in_err-disks-clause-disks
returns-in_err-disks-clause-disks g c =
    let view = g.H.D.Disk.view in
    let offers = (g.H.Shop.view c.args.shop.now).offers c.args.place.now in
    let counts = (g.H.Shop.view c.args.shop.now).counts c.args.place.now in
    let refused = c.in_err-disks.field-0.0 in
    let proper : IsProper (plan_of_script c.args.script.now) = search rules in
    by_err c.from_residual.result refused (ComeBack view offers counts c.args.script.now.table) c.from_residual.ensures.1
    (given_back view c.known_now.ensures offers counts c.args.script.now.table refused (g.H.Shop.view c.args.shop.now).faults (g.H.Shop.view c.obtain_all.new.shop).faults proper.few_copies c.in_err-disks.ensures.offered c.in_err-disks.ensures.counted c.in_err-disks.ensures.not_all)

pub returns-in_err-disks-clause-others : goal.returns-in_err-disks-clause-others
returns-in_err-disks-clause-others g c = λ p n from.
    let back = error_returned c.from_residual.result c.in_err-disks.field-0.0 c.from_residual.ensures.1 in
    c.in_err-disks.ensures.others p n (subst (λ many. All (λ which. n ≢ which) (first_numbers c.args.script.now.table.copies many)) back from)

pub returns-clause-restores : goal.returns-clause-restores
returns-clause-restores g c = λ images offered.
    let view = g.H.D.Disk.view in
    let plan = plan_of_script c.args.script.now in
    let offers = by_place plan.table.copies ((g.H.Shop.view c.args.shop.now).offers c.args.place.now) in
    let disks = c.in_ok-disks.disks.items in
    let told = told_by (map (λ d. (view d).content) disks) in
    let counts = counted_by (map (λ d. (view d).faults) disks) in
    let tells = tell_offered view plan.table offers disks c.in_ok-disks.ensures.offered c.in_ok-disks.ensures.all in
    if_ok c.run_disks.result (λ stored. SinceFolds plan.table told (λ now. HasRun view plan c.args.limit now counts stored)) (λ stored. RestoreInPairs plan.table images stored.ended.start) c.run_disks.ensures.ran
    (λ stored since. restored view plan c.args.limit told counts stored since ((g.H.Shop.view c.args.shop.now).offers c.args.place.now) tells images offered)

pub returns-clause-first : goal.returns-clause-first
returns-clause-first g c = λ none.
    let view = g.H.D.Disk.view in
    let plan = plan_of_script c.args.script.now in
    let offers = by_place plan.table.copies ((g.H.Shop.view c.args.shop.now).offers c.args.place.now) in
    let disks = c.in_ok-disks.disks.items in
    let told = told_by (map (λ d. (view d).content) disks) in
    let counts = counted_by (map (λ d. (view d).faults) disks) in
    let tells = tell_offered view plan.table offers disks c.in_ok-disks.ensures.offered c.in_ok-disks.ensures.all in
    if_ok c.run_disks.result (λ stored. SinceFolds plan.table told (λ now. HasRun view plan c.args.limit now counts stored)) (λ stored. stored.ended.start ≡ base_of plan.table) c.run_disks.ensures.ran
    (λ stored since. first view plan c.args.limit told counts stored since offers tells none)

pub returns-clause-kept : goal.returns-clause-kept
returns-clause-kept g c =
    let view = g.H.D.Disk.view in
    let plan = plan_of_script c.args.script.now in
    let offers = by_place plan.table.copies ((g.H.Shop.view c.args.shop.now).offers c.args.place.now) in
    let disks = c.in_ok-disks.disks.items in
    let told = told_by (map (λ d. (view d).content) disks) in
    let counts = counted_by (map (λ d. (view d).faults) disks) in
    let tells = tell_offered view plan.table offers disks c.in_ok-disks.ensures.offered c.in_ok-disks.ensures.all in
    if_ok c.run_disks.result (λ stored. SinceFolds plan.table told (λ now. HasRun view plan c.args.limit now counts stored)) (λ stored. SinceFolds plan.table offers (λ now. HasKept view plan.table c.args.limit now stored)) c.run_disks.ensures.ran
    (λ stored since. shown_since plan.table told offers tells (λ now. HasRun view plan c.args.limit now counts stored) (λ now. HasKept view plan.table c.args.limit now stored) (λ now run. kept view plan c.args.limit now counts stored run (shown_now offers now) (shown_as_much plan.table offers now)) since)

pub returns-clause-stands : goal.returns-clause-stands
returns-clause-stands g c = λ all_tell.
    let view = g.H.D.Disk.view in
    let plan = plan_of_script c.args.script.now in
    let offers = by_place plan.table.copies ((g.H.Shop.view c.args.shop.now).offers c.args.place.now) in
    let disks = c.in_ok-disks.disks.items in
    let told = told_by (map (λ d. (view d).content) disks) in
    let counts = counted_by (map (λ d. (view d).faults) disks) in
    let tells = tell_offered view plan.table offers disks c.in_ok-disks.ensures.offered c.in_ok-disks.ensures.all in
    if_ok c.run_disks.result (λ stored. SinceFolds plan.table told (λ now. HasRun view plan c.args.limit now counts stored)) (λ stored. (images : List (List ℕ)) → AreImages view (disks_of stored) images → ∥ StandInPairsWithin 1 plan.table stored.ended.start stored.epoch (past_of stored) images ∥₁) c.run_disks.ensures.ran
    (λ stored since. stands view plan c.args.limit told counts stored since offers tells c.known_now.ensures all_tell)

pub returns-clause-grown : goal.returns-clause-grown
returns-clause-grown g c =
    let view = g.H.D.Disk.view in
    let plan = plan_of_script c.args.script.now in
    let offers = by_place plan.table.copies ((g.H.Shop.view c.args.shop.now).offers c.args.place.now) in
    let disks = c.in_ok-disks.disks.items in
    let told = told_by (map (λ d. (view d).content) disks) in
    let counts = counted_by (map (λ d. (view d).faults) disks) in
    let tells = tell_offered view plan.table offers disks c.in_ok-disks.ensures.offered c.in_ok-disks.ensures.all in
    if_ok c.run_disks.result (λ stored. SinceFolds plan.table told (λ now. HasRun view plan c.args.limit now counts stored)) (λ stored. SinceFolds plan.table offers (λ now. HaveGrown view plan.table now stored.epoch stored.ended.start (disks_of stored) (past_of stored))) c.run_disks.ensures.ran
    (λ stored since. shown_since plan.table told offers tells (λ now. HasRun view plan c.args.limit now counts stored) (λ now. HaveGrown view plan.table now stored.epoch stored.ended.start (disks_of stored) (past_of stored)) (λ now run. have_grown view plan.table c.args.limit (shown_now offers now) stored (kept view plan c.args.limit now counts stored run (shown_now offers now) (shown_as_much plan.table offers now))) since)

pub returns-clause-unable : goal.returns-clause-unable
returns-clause-unable g c =
    let view = g.H.D.Disk.view in
    let plan = plan_of_script c.args.script.now in
    let offers = by_place plan.table.copies ((g.H.Shop.view c.args.shop.now).offers c.args.place.now) in
    let disks = c.in_ok-disks.disks.items in
    let told = told_by (map (λ d. (view d).content) disks) in
    let counts = counted_by (map (λ d. (view d).faults) disks) in
    let tells = tell_offered view plan.table offers disks c.in_ok-disks.ensures.offered c.in_ok-disks.ensures.all in
    if_ok c.run_disks.result (λ stored. SinceFolds plan.table told (λ now. HasRun view plan c.args.limit now counts stored)) (λ stored. SinceFolds plan.table offers (λ now. UnablesHadCause plan.table c.args.limit now stored.epoch stored.ended.start (past_of stored))) c.run_disks.ensures.ran
    (λ stored since. shown_since plan.table told offers tells (λ now. HasRun view plan c.args.limit now counts stored) (λ now. UnablesHadCause plan.table c.args.limit now stored.epoch stored.ended.start (past_of stored)) (λ now run. had_cause view plan.table c.args.limit (shown_now offers now) stored (kept view plan c.args.limit now counts stored run (shown_now offers now) (shown_as_much plan.table offers now))) since)

pub returns-clause-paid : goal.returns-clause-paid
returns-clause-paid g c =
    let view = g.H.D.Disk.view in
    let plan = plan_of_script c.args.script.now in
    let offers = by_place plan.table.copies ((g.H.Shop.view c.args.shop.now).offers c.args.place.now) in
    let shop = by_place plan.table.copies ((g.H.Shop.view c.args.shop.now).counts c.args.place.now) in
    let disks = c.in_ok-disks.disks.items in
    let told = told_by (map (λ d. (view d).content) disks) in
    let counts = counted_by (map (λ d. (view d).faults) disks) in
    let tells = tell_offered view plan.table offers disks c.in_ok-disks.ensures.offered c.in_ok-disks.ensures.all in
    if_ok c.run_disks.result (λ stored. SinceFolds plan.table told (λ now. HasRun view plan c.args.limit now counts stored)) (λ stored. SinceFolds plan.table offers (λ now. HavePaid view plan.table now shop stored.epoch stored.ended.start (disks_of stored) (past_of stored))) c.run_disks.ensures.ran
    (λ stored since. shown_since plan.table told offers tells (λ now. HasRun view plan c.args.limit now counts stored) (λ now. HavePaid view plan.table now shop stored.epoch stored.ended.start (disks_of stored) (past_of stored)) (λ now run. paid view plan c.args.limit now counts stored run (shown_now offers now) (shown_as_much plan.table offers now) shop (counted_at view plan.table shop disks c.in_ok-disks.ensures.counted c.in_ok-disks.ensures.all)) since)

pub returns-clause-folded : goal.returns-clause-folded
returns-clause-folded g c =
    let view = g.H.D.Disk.view in
    let plan = plan_of_script c.args.script.now in
    let offers = by_place plan.table.copies ((g.H.Shop.view c.args.shop.now).offers c.args.place.now) in
    let shop = by_place plan.table.copies ((g.H.Shop.view c.args.shop.now).counts c.args.place.now) in
    let disks = c.in_ok-disks.disks.items in
    let told = told_by (map (λ d. (view d).content) disks) in
    let counts = counted_by (map (λ d. (view d).faults) disks) in
    let tells = tell_offered view plan.table offers disks c.in_ok-disks.ensures.offered c.in_ok-disks.ensures.all in
    if_ok c.run_disks.result (λ stored. SinceFolds plan.table told (λ now. HasRun view plan c.args.limit now counts stored)) (λ stored. IsOk stored.ended.ran → HasEnded (past_of stored) → SinceFolds plan.table offers (λ now. WereFolded view plan.table c.args.limit now shop stored.epoch stored.ended.start (disks_of stored) (past_of stored))) c.run_disks.ensures.ran
    (λ stored since done ended. shown_since plan.table told offers tells (λ now. HasRun view plan c.args.limit now counts stored) (λ now. WereFolded view plan.table c.args.limit now shop stored.epoch stored.ended.start (disks_of stored) (past_of stored)) (λ now run. folded view plan c.args.limit now counts stored run (shown_now offers now) (shown_as_much plan.table offers now) shop (counted_at view plan.table shop disks c.in_ok-disks.ensures.counted c.in_ok-disks.ensures.all) done ended) since)

pub returns-clause-sound : goal.returns-clause-sound
returns-clause-sound g c = λ images offered.
    c.run_disks.ensures.sound images (tell g.H.D.Disk.view (by_place c.args.script.now.table.copies ((g.H.Shop.view c.args.shop.now).offers c.args.place.now)) 0 c.in_ok-disks.disks.items images c.in_ok-disks.ensures.offered offered.each (c.in_ok-disks.ensures.all ∙ sym offered.all))

pub returns-clause-image : goal.returns-clause-image
returns-clause-image g c = λ images offered.
    let view = g.H.D.Disk.view in
    let table = c.args.script.now.table in
    let disks = c.in_ok-disks.disks.items in
    let told = tell view (by_place table.copies ((g.H.Shop.view c.args.shop.now).offers c.args.place.now)) 0 disks images c.in_ok-disks.ensures.offered offered.each (c.in_ok-disks.ensures.all ∙ sym offered.all) in
    if_err c.run_disks.result (λ refused. AreLeft view table (reason_in refused) disks (disks_in refused))
    (λ refused. IsReasonAmong 0 table.copies (λ bad. (told : List (List ℕ)) → TellImages view disks told → IsFirstFault table c.args.limit bad told) (reason_in refused))
    (IsFaultOf table c.args.limit images) c.run_disks.ensures.left c.run_disks.ensures.reason
    (λ refused left among. fault_of view table c.args.limit images refused table.copies disks told among)

pub returns-clause-refused : goal.returns-clause-refused
returns-clause-refused g c =
    let view = g.H.D.Disk.view in
    let table = c.args.script.now.table in
    let disks = c.in_ok-disks.disks.items in
    let before = (g.H.Shop.view c.args.shop.now).faults in
    let now = (g.H.Shop.view c.obtain_all.new.shop).faults in
    let Among : BadImage → Type 0 = λ bad. (told : List (List ℕ)) → TellImages view disks told → IsFirstFault table c.args.limit bad told in
    if_err c.run_disks.result (λ refused. AreLeft view table (reason_in refused) disks (disks_in refused)) (λ refused. IsReasonAmong 0 table.copies Among (reason_in refused))
    (λ refused. IsNotGiven table.copies before now refused ⊎ IsNotMounted table.copies refused) c.run_disks.ensures.left c.run_disks.ensures.reason
    (λ refused left among. inr (not_mounted view table refused Among disks c.in_ok-disks.ensures.all left among))

pub returns-clause-disks : goal.returns-clause-disks
returns-clause-disks g c =
    let view = g.H.D.Disk.view in
    let table = c.args.script.now.table in
    let disks = c.in_ok-disks.disks.items in
    let offers = (g.H.Shop.view c.args.shop.now).offers c.args.place.now in
    let counts = (g.H.Shop.view c.args.shop.now).counts c.args.place.now in
    if_err c.run_disks.result (λ refused. AreLeft view table (reason_in refused) disks (disks_in refused)) (λ refused. AreLeft view table (reason_in refused) disks (disks_in refused))
    (ComeBack view offers counts table) c.run_disks.ensures.left c.run_disks.ensures.left
    (λ refused left same. come_back view offers counts table refused disks c.in_ok-disks.ensures.offered c.in_ok-disks.ensures.counted c.in_ok-disks.ensures.all left)

pub returns-clause-others : goal.returns-clause-others
returns-clause-others g c = λ p n from.
    let view = g.H.D.Disk.view in
    let plan = plan_of_script c.args.script.now in
    let disks = c.in_ok-disks.disks.items in
    let all = c.in_ok-disks.ensures.all in
    let back = all_returned view plan c.args.limit (told_by (map (λ d. (view d).content) disks)) (counted_by (map (λ d. (view d).faults) disks)) disks c.run_disks.result all c.run_disks.ensures.ran c.run_disks.ensures.left in
    c.in_ok-disks.ensures.others p n (subst (λ many. All (λ which. n ≢ which) (first_numbers plan.table.copies many)) (back ∙ sym all) from)

pub returns-clause-gave : goal.returns-clause-gave
returns-clause-gave g c =
    let view = g.H.D.Disk.view in
    let plan = plan_of_script c.args.script.now in
    let disks = c.in_ok-disks.disks.items in
    let all = c.in_ok-disks.ensures.all in
    let back = all_returned view plan c.args.limit (told_by (map (λ d. (view d).content) disks)) (counted_by (map (λ d. (view d).faults) disks)) disks c.run_disks.result all c.run_disks.ensures.ran c.run_disks.ensures.left in
    c.in_ok-disks.ensures.gave ∙ ap (λ many. (g.H.Shop.view c.args.shop.now).gave ++ disks_of_place c.args.place.now (first_numbers plan.table.copies many)) (all ∙ sym back)
