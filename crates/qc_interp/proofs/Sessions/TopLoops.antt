-- What is left of the tries of a body that run as tops after some of them, and of the bodies of a session.
use Rattle.std.proofs.Common.{◌≡◌, ℕ, suc, ◌<◌, ◌+◌, ◌≤◌, Bool, true, false, List, [], ◌∷◌, ◌++◌, length, drop, map, get_or, refl, sym, ap, ◌∙◌, subst, append-nil, add-one, drop-cons}
use Rattle.std.specs.Prelude.{Option, None, Some}
use Rattle.std.proofs.lemmas.List.{drop_all}
use Rattle.qc_event.specs.History.{Past, Name, children, end}
use Rattle.qc_event.specs.Legal.{Legal}
use Rattle.qc_script.specs.declared.script.Body.{Body}
use Rattle.qc_script.specs.Client.{Client, Made, IsLater, HasJoined, AreOurs}
use Rattle.qc_interp.specs.Tries.{is_tried_again}
use Rattle.qc_interp.specs.Reach.{Reach}
use Rattle.qc_script.specs.Plan.{Numbered, PlanFits, BodiesFit}
use Rattle.qc_script.specs.Steps.{numbered}
use Rattle.qc_interp.specs.Session.{EndsTopsAt, EndsTops, RanTops, RanInTurn, CutTops}
use Rattle.qc_interp.proofs.Scopes.Growth.{made_is, made_later, later_itself, later_trans}
use Rattle.qc_interp.proofs.Stepping.Asked.{asked_made}
use Rattle.qc_interp.proofs.Trying.OneTry.{more_try}
use Rattle.qc_interp.proofs.Branching.Joined.{joined_itself, joined_before, joined_chain, joined_since, joined_later, joined_turn, joined_setting, by_joined, more_mine, more_later, more_turn, ours_back, both}
use Rattle.qc_interp.proofs.Sessions.TopsRun.{TriedTop, CutTop, turn_itself, turn_trans, turn_cut}
use Rattle.qc_interp.proofs.Sessions.TopsLead.{EndsTopTries, top_again, top_last, cut_last}

pub record TopTriesLeft (c : Client) (body : Numbered) (before now : Past) (left : ℕ) : Type 0 where
  pub later : IsLater c before now
  pub in_turn : RanInTurn c before now
  pub last : Option Name
  pub front : (reach : Reach) (d : Client) (x : Past) → HasJoined c now d → IsLater d now x → (rest : List Numbered) → EndsTopTries reach d now x body last left rest → EndsTopsAt reach d before x (body ∷ rest)

-- A try is the same as the client merges branches, and as many are left.
module _ (c d : Client) (body : Numbered) (before now : Past) (j : HasJoined c now d) where
  top_joined : (again : Bool) (t : TriedTop c body before now again) → (u : TriedTop d body before now again) × (u.top ≡ t.top)
  top_joined again t = by_joined (λ y. (u : TriedTop y body before now again) × (u.top ≡ t.top)) c d now j (λ kin all.
      let same = more_mine c kin now all in
      let back = ours_back c kin now all t.top in (
        record {
          later = more_later c kin before now t.later;
          in_turn = more_turn c kin Reach.to_the_end before now t.in_turn all;
          top = t.top;
          more = both c kin before now t.later all (λ x y. children y [] ≡ children x [] ++ t.top ∷ []) t.more;
          one = more_try c kin before now t.later all Reach.to_the_end t.top body (AreOurs c t.top now) (AreOurs (record c { kin = kin }) t.top now) back t.one;
          tried = t.tried ∙ sym (ap (λ h. is_tried_again (end h t.top)) same);
        },
        refl,
      ))

  pub top_tries_joined : (left : ℕ) → TopTriesLeft c body before now left → TopTriesLeft d body before now left
  top_tries_joined left l =
      let later = joined_later c d now j before now l.later in
      record {
        later = later;
        in_turn = joined_turn c d now j Reach.to_the_end before l.in_turn;
        last = l.last;
        front = λ reach e x further. l.front reach e x (joined_chain c d now j e later.legal further);
      }

module _ (c : Client) (body : Numbered) where
  pub no_top : (now : Past) → Legal c.setting now → TopTriesLeft c body now now body.tries
  no_top now legal = record { in_turn = turn_itself c now legal; later = later_itself c now legal; last = None; front = λ reach d x j later rest ends. ends }

  pub top_more : (before now next : Past) (left : ℕ) → TopTriesLeft c body before now (suc left) → TriedTop c body now next true → TopTriesLeft c body before next left
  top_more before now next left l t = record {
    in_turn = turn_trans c before now next t.later l.in_turn t.in_turn;
    later = later_trans c before now next l.later t.later;
    last = Some t.top;
    front = λ reach d x j later rest ends.
        let same = top_joined c d body now next j true t in
        l.front reach d x (joined_before c d now next t.later j) (joined_since c d next j now x t.later later) rest
        (top_again d body now next true same.0 refl reach x later l.last left rest (subst (λ n. EndsTopTries reach d next x body (Some n) left rest) (sym same.1) ends));
  }

  pub top_out : (before now next : Past) (left : ℕ) → TopTriesLeft c body before now (suc left) → TriedTop c body now next false → RanTops c before next (λ rest. body ∷ rest)
  top_out before now next left l t = record {
    in_turn = turn_trans c before now next t.later l.in_turn t.in_turn;
    later = later_trans c before now next l.later t.later;
    follows = λ reach d x j later rest ends.
        l.front reach d x (joined_before c d now next t.later j) (joined_since c d next j now x t.later later) rest
        (top_last d body now next false (top_joined c d body now next j false t).0 refl reach x later l.last left rest ends);
  }

  pub tops_out : (before now : Past) → TopTriesLeft c body before now 0 → RanTops c before now (λ rest. body ∷ rest)
  tops_out before now l = record { in_turn = l.in_turn; later = l.later; follows = l.front }

module _ (c : Client) (body : Numbered) where
  pub try_cut : (before now next : Past) (left : ℕ) (rest : List Numbered) → TopTriesLeft c body before now (suc left) → CutTop c body now next → CutTops c before next (body ∷ rest)
  try_cut before now next left rest l t = record {
    in_turn = turn_trans c before now next t.in_turn.later l.in_turn t.in_turn;
    begins = l.front Reach.cut_off c next (joined_itself c now) t.in_turn.later rest (cut_last c body now next t l.last left rest);
  }

  -- a top was not begun
  pub top_not_begun : (before now next : Past) (left : ℕ) (rest : List Numbered) → TopTriesLeft c body before now (suc left) → Made c [] now next → CutTops c before next (body ∷ rest)
  top_not_begun before now next left rest l m =
      let own = made_is c [] now next m in
      let later = made_later c [] now next m in
      record {
        in_turn = turn_trans c before now next later l.in_turn (turn_cut c now next m);
        begins = l.front Reach.cut_off c next (joined_itself c now) later rest (λ ours. ([], ap (λ h. children h []) own ∙ sym (append-nil _), tt, asked_made c [] now next _ m tt));
      }

pub record BodiesLeft (c : Client) (bodies : List Body) (before now : Past) (i : ℕ) : Type 0 where
  pub later : IsLater c before now
  pub in_turn : RanInTurn c before now
  pub fits : BodiesFit c.setting (map numbered (drop i bodies))
  pub front : (reach : Reach) (d : Client) (x : Past) → HasJoined c now d → IsLater d now x → EndsTopsAt reach d now x (map numbered (drop i bodies)) → EndsTopsAt reach d before x (map numbered bodies)

-- they are left too as the client merges branches
pub bodies_joined : (c d : Client) (bodies : List Body) (before now : Past) (i : ℕ) → HasJoined c now d → BodiesLeft c bodies before now i → BodiesLeft d bodies before now i
bodies_joined c d bodies before now i j l =
    let later = joined_later c d now j before now l.later in
    record {
      later = later;
      in_turn = joined_turn c d now j Reach.to_the_end before l.in_turn;
      fits = subst (λ setting. BodiesFit setting (map numbered (drop i bodies))) (sym (joined_setting c d now j)) l.fits;
      front = λ reach e x further. l.front reach e x (joined_chain c d now j e later.legal further);
    }

module _ (c : Client) (bodies : List Body) where
  pub no_body : (now : Past) → Legal c.setting now → BodiesFit c.setting (map numbered bodies) → BodiesLeft c bodies now now 0
  no_body now legal fits = record { in_turn = turn_itself c now legal; later = later_itself c now legal; fits = fits; front = λ reach d x j later ends. ends }

  split : (i : ℕ) (b : Body) → i < length bodies → b ≡ get_or bodies i b → map numbered (drop i bodies) ≡ numbered b ∷ map numbered (drop (i + 1) bodies)
  split i b below is = ap (map numbered) (let s : drop i bodies ≡ b ∷ drop (i + 1) bodies = rw add-one (drop-cons bodies i b below ∙ ap (λ y. y ∷ drop (suc i) bodies) (sym is)) in s)

  pub fits_body : (before now : Past) (i : ℕ) (b : Body) → BodiesLeft c bodies before now i → i < length bodies → b ≡ get_or bodies i b → PlanFits c.setting 1 (numbered b).plan
  fits_body before now i b l below is = (subst (BodiesFit c.setting) (split i b below is) l.fits).1

  pub one_body : (before now next : Past) (i : ℕ) (b : Body) → BodiesLeft c bodies before now i → i < length bodies → b ≡ get_or bodies i b → RanTops c now next (λ rest. numbered b ∷ rest) → BodiesLeft c bodies before next (i + 1)
  one_body before now next i b l below is ran = record {
    in_turn = turn_trans c before now next ran.later l.in_turn ran.in_turn;
    later = later_trans c before now next l.later ran.later;
    fits = (subst (BodiesFit c.setting) (split i b below is) l.fits).2;
    front = λ reach d x j later ends.
        l.front reach d x (joined_before c d now next ran.later j) (joined_since c d next j now x ran.later later)
        (subst (EndsTopsAt reach d now x) (sym (split i b below is)) (ran.follows reach d x j later (map numbered (drop (i + 1) bodies)) ends));
  }

  pub bodies_cut : (before now next : Past) (i : ℕ) (b : Body) → BodiesLeft c bodies before now i → i < length bodies → b ≡ get_or bodies i b → ((rest : List Numbered) → CutTops c now next (numbered b ∷ rest)) → CutTops c before next (map numbered bodies)
  bodies_cut before now next i b l below is cut =
      let one = cut (map numbered (drop (i + 1) bodies)) in
      record {
        in_turn = turn_trans c before now next one.in_turn.later l.in_turn one.in_turn;
        begins = l.front Reach.cut_off c next (joined_itself c now) one.in_turn.later (subst (EndsTopsAt Reach.cut_off c now next) (sym (split i b below is)) one.begins);
      }

  pub all_bodies : (before now : Past) (i : ℕ) → BodiesLeft c bodies before now i → length bodies ≤ i → EndsTops c before now (map numbered bodies)
  all_bodies before now i l past = l.front Reach.to_the_end c now (joined_itself c now) (later_itself c now l.later.legal) (subst (EndsTops c now now) (sym (ap (map numbered) (drop_all i bodies past))) (λ ours. ([], sym (append-nil _), tt, ([], refl, tt))))
