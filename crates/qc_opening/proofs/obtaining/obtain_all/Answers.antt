-- One disk more, at the next place.
use Rattle.std.proofs.Common.{ℕ, ◌≡◌, ◌≢◌, ◌+◌, All, List, [], ◌∷◌, ◌++◌, length, subst, sym, ap, arith, ◌∙◌, append_assoc}
use Rattle.std.proofs.lemmas.List.{length-append, map_push}
use Rattle.qc_disk.specs.Shop.{ShopView, Tells, TellsAlike, disks_of_place}
use Rattle.qc_opening.specs.Disks.{by_place, first_numbers, number_of, AreCounted, AreOffered}
use Rattle.qc_opening.proofs.Mountings.Numbered.{each_more}
use Rattle.qc_opening.proofs.Mountings.Places.{all_numbered, apart, none_so_far, numbers_more}
use Rattle.qc_opening.proofs.obtaining.obtain_all.Goals as goal

-- what is told alike twice is told alike
alike_twice : (first mid last : ShopView) (place : List ℕ) (which : ℕ) → TellsAlike mid last place which → TellsAlike first mid place which → TellsAlike first last place which
alike_twice first mid last place which later sooner = record { offers = later.offers ∙ sooner.offers; counts = later.counts ∙ sooner.counts }

-- one disk more of a place was given
gave_more : (before mid now : List (List ℕ × ℕ)) (place : List ℕ) (copies at which : ℕ) → which ≡ number_of copies at → mid ≡ before ++ disks_of_place place (first_numbers copies at)
    → now ≡ mid ++ (place, which) ∷ [] → now ≡ before ++ disks_of_place place (first_numbers copies (at + 1))
gave_more before mid now place copies at which is so_far more =
    more ∙ ap (λ (l : List (List ℕ × ℕ)). l ++ (place, which) ∷ []) so_far
    ∙ append_assoc before (disks_of_place place (first_numbers copies at)) ((place, which) ∷ [])
    ∙ ap (λ n. before ++ (disks_of_place place (first_numbers copies at) ++ (place, n) ∷ [])) is
    ∙ ap (λ (l : List (List ℕ × ℕ)). before ++ l) (sym (ap (disks_of_place place) (numbers_more copies at) ∙ map_push (λ n. (place, n)) (first_numbers copies at) (number_of copies at)))

pub loop-at-preserved : goal.loop-at-preserved
loop-at-preserved g c =
    let view = g.H.D.Disk.view in
    let copies = c.args.copies in
    let at = c.loop-at.at in
    let which = c.number_of-which.result in
    let is : which ≡ number_of copies at = c.number_of-which.ensures in
    let offers = (g.H.Shop.view c.args.shop.now).offers c.args.place.now in
    let counts = (g.H.Shop.view c.args.shop.now).counts c.args.place.now in
    let so_far = c.loop-at.invariant in
    let more = c.push_reserved.ensures.items in
    let same = so_far.others c.args.place.now which (subst (λ n. All (λ other. n ≢ other) (first_numbers copies at)) (sym is) (all_numbered (λ other. number_of copies at ≢ other) copies at (λ place low. apart copies place at c.requires.few (omega (arith, low))))) in
    let here : Tells (offers which) (view c.in-Ok-obtain.disk).content = subst (λ o. Tells o (view c.in-Ok-obtain.disk).content) same.offers c.in-Ok-obtain.ensures.given in
    let count : (view c.in-Ok-obtain.disk).faults ≡ counts which = c.in-Ok-obtain.ensures.counted ∙ same.counts in
    record {
      offered = subst (λ (l : List g.row.H-D.Denot). AreOffered view (by_place copies offers) 0 l) (sym {A = List g.row.H-D.Denot} more)
          (each_more (λ n disk. Tells (by_place copies offers n) (view disk).content) 0 at c.loop-at.disks.items c.in-Ok-obtain.disk so_far.offered (omega (arith, so_far.size))
          (subst (λ n. Tells (offers n) (view c.in-Ok-obtain.disk).content) is here));
      counted = subst (λ (l : List g.row.H-D.Denot). AreCounted view (by_place copies counts) 0 l) (sym {A = List g.row.H-D.Denot} more)
          (each_more (λ n disk. (view disk).faults ≡ by_place copies counts n) 0 at c.loop-at.disks.items c.in-Ok-obtain.disk so_far.counted (omega (arith, so_far.size)) (count ∙ ap counts is));
      size = omega (arith, ap length more, length-append c.loop-at.disks.items (c.in-Ok-obtain.disk ∷ []), so_far.size);
      room = c.push_reserved.ensures.capacity ∙ so_far.room;
      others = λ p n none.
          let both = none_so_far copies at n none in
          alike_twice _ _ _ p n (c.obtain.ensures.others p n (λ same. both.1 (same ∙ is))) (so_far.others p n both.0);
      gave = gave_more (g.H.Shop.view c.args.shop.now).gave _ _ c.args.place.now copies at which is so_far.gave c.in-Ok-obtain.ensures.gave;
      later = omega (arith, so_far.later, c.obtain.ensures.cause.later);
    }
