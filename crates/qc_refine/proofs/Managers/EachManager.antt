-- Each of the managers that a live transaction sees finds and leaves sound copies.
use Rattle.std.proofs.Common.{◌≡◌, List, [], ◌∷◌, ◌++◌, sym, ap, ◌∙◌, subst, append_assoc}
use Rattle.std.specs.Prelude.{All, None}
use Rattle.std.proofs.lemmas.Grind.{flat_map-append}
use Rattle.qc_config.specs.Val.{Datum}
use Rattle.qc_config.specs.declared.tuple.Tuple.{Tuple}
use Rattle.qc_event.specs.Base.{Setting}
use Rattle.qc_event.specs.Dead.{dead}
use Rattle.qc_event.specs.History.{Past, Name, Given}
use Rattle.qc_event.specs.Legal.{Legal}
use Rattle.qc_event.specs.Sound.{IsSound}
use Rattle.qc_serial.specs.Serial.{IsUserOf}
use Rattle.qc_serial.specs.Visible.{Finds}
use Rattle.qc_refine.specs.InTurn.{Done, IsDone, given_to, left_setting, values_by, values_after, AnswersValue, AnswerValues, KeepsSound}
use Rattle.qc_refine.specs.Turns.{dones_order}
use Rattle.qc_refine.proofs.Order.CopiesSerial.{done, there}
use Rattle.qc_refine.proofs.Copies.InTurn.{reads_answer, left_sound}
use Rattle.qc_refine.proofs.Order.DonesWalk.{all_front}

-- what finds as a whole finds at its front
finds_front : (base : List (List Tuple)) (xs ys : List Given) → Finds base (xs ++ ys) → Finds base xs
finds_front base xs ys h earlier later g is = h earlier (later ++ ys) g (ap (λ zs. zs ++ ys) is ∙ append_assoc earlier (g ∷ later) ys)

-- among answers that are values each is
answers_at : (values : List Datum) (earlier later : List Done) (d : Done) → AnswerValues values (earlier ++ d ∷ later) → AnswersValue (values_after values earlier) d.kind d.answer
answers_at values [] later d h = h.0
answers_at values (x ∷ earlier) later d h = answers_at (values_by values x.kind) earlier later d h.1

module _ (setting : Setting) (values : List Datum) (past : Past) (t : Name) (legal : Legal setting past) (sound : IsSound setting values) (user : IsUserOf past t) (alive : dead past t ≡ None) where
  front_done : (front rest : List Done) → dones_order past t ≡ front ++ rest → All (IsDone setting) front
  front_done front rest is = all_front (IsDone setting) front rest (subst (All (IsDone setting)) is (done setting values past t legal sound user alive))

  front_there : (front rest : List Done) → dones_order past t ≡ front ++ rest → Finds setting.base (given_to front)
  front_there front rest is =
      finds_front setting.base (given_to front) (given_to rest)
      (subst (Finds setting.base) (ap given_to is ∙ flat_map-append (λ (d : Done). d.given) front rest) (there setting values past t legal sound user alive))

  front_sound : (front rest : List Done) → dones_order past t ≡ front ++ rest → IsSound (left_setting setting (given_to front)) (values_after values front)
  front_sound front rest is = left_sound setting values front sound (front_done front rest is) (front_there front rest is)

  pub each_manager : (earlier later : List Done) (d : Done) → dones_order past t ≡ earlier ++ d ∷ later → KeepsSound setting values earlier d
  each_manager earlier later d is =
      let through : dones_order past t ≡ (earlier ++ d ∷ []) ++ later = is ∙ sym (append_assoc earlier (d ∷ []) later) in
      record {
        finds = front_sound earlier (d ∷ later) is;
        answers = answers_at values earlier [] d
            (reads_answer setting values (earlier ++ d ∷ []) sound (front_done (earlier ++ d ∷ []) later through) (front_there (earlier ++ d ∷ []) later through));
        leaves = front_sound (earlier ++ d ∷ []) later through;
      }
