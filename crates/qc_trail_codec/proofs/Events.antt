-- The forms of events are exact.
use Rattle.std.proofs.Common.{◌≡◌, ℕ, Option, Some, refl, ap}
use Rattle.qc_config.specs.Val.{Datum}
use Rattle.qc_config.specs.Config.{Voting}
use Rattle.qc_config.specs.declared.tuple.Op.{Op}
use Rattle.qc_config.specs.declared.tuple.Op.TheVariants.{Get, PutData, PutConfig}
use Rattle.qc_config.specs.declared.tuple.Tuple.{Tuple}
use Rattle.qc_event.specs.declared.event.Answer.{Answer}
use Rattle.qc_event.specs.declared.event.Answer.TheVariants.{Nothing, Value, Generation, Reply}
use Rattle.qc_event.specs.declared.event.Ask.{Ask}
use Rattle.qc_event.specs.declared.event.Cause.{Cause}
use Rattle.qc_event.specs.declared.event.Cause.TheVariants as cause_is
use Rattle.qc_event.specs.declared.event.Event.{Event}
use Rattle.qc_event.specs.declared.event.Event.TheVariants as event_is
use Rattle.qc_event.specs.declared.event.Grant.{Grant}
use Rattle.qc_event.specs.declared.event.How.{How}
use Rattle.qc_event.specs.declared.event.How.TheVariants.{Commit, Abort}
use Rattle.qc_event.specs.declared.event.Kind.{Kind}
use Rattle.qc_event.specs.declared.event.Kind.TheVariants.{User, Read, Write, Reconf, Access}
use Rattle.qc_event.specs.declared.event.Lack.{Lack}
use Rattle.qc_event.specs.declared.event.Refusal.{Refusal}
use Rattle.qc_event.specs.declared.event.Refusal.TheVariants.{Blocked, Dead}
use Rattle.qc_event.specs.declared.event.Why.{Why}
use Rattle.qc_event.specs.History.{Name}
use Rattle.qc_codec.specs.Form.{Form, Any, byte, variant, under}
use Rattle.qc_codec.specs.Fields.{Layout, word, long, name}
use Rattle.qc_codec.specs.Bodies.{code_of}
use Rattle.qc_codec.proofs.Exact.{IsExact, AreTagged, exact_byte, exact_word, exact_long, exact_pair, exact_as, exact_only, exact_variant, variant_tag, exact_choose, tagged_under, tagged_nothing}
use Rattle.qc_codec.proofs.Fields.{exact_name, exact_datum, exact_config, exact_tuple}
use Rattle.qc_codec.proofs.Bodies.{exact_granted}
use Rattle.qc_trail_codec.specs.Events.{op, data_of, config_of, put_data, put_config, kind, kind_tag, user_of, read_of, write_of, reconf_of, user, write, reconf, answer, answer_tag, value_of, generation_of, reply_of, cause, cause_tag, asked_of, conflict_of, lack_of, orphan_of, child_of, conflict, how, how_tag, commit_of, abort_of, ask, refusal, refusal_tag, blocked_of, dead_of, event, event_tag, start_of, ask_of, gone_of, granted_of, refused_of, ready_of, end_of, unable_of, mark_of, start, gone, grant_of_copy, refused, end, unable, mark, is_session, entry}
use Rattle.qc_trail_codec.proofs.Reasons.{exact_why, exact_inability, exact_lack, tagged_just}

-- one variant under its tag
module _ {A B : Type 0} (tag : B → ℕ) (n : ℕ) (to : A → B) (from : B → Option A) (f : Form A) (others : ℕ → Form B) where
  tagged_variant : IsExact f → ((a : A) → from (to a) ≡ Some a) → ((b : B) (a : A) → from b ≡ Some a → to a ≡ b) → ((a : A) → tag (to a) ≡ n) → AreTagged tag others → AreTagged tag (under n (variant to from f) others)
  tagged_variant ef forth back own rest = tagged_under tag n (variant to from f) others (exact_variant to from f ef (λ a fits. forth a) back) (variant_tag to from f tag n own back) rest

-- OPERATIONS

data_back : (o : Op) (p : ℕ × Datum) → data_of o ≡ Some p → put_data p ≡ o
data_back (PutData version value) p is = ap put_data (cc)
data_back Get p is = absurd cc
data_back (PutConfig generation c) p is = absurd cc

config_back : (o : Op) (p : ℕ × Voting) → config_of o ≡ Some p → put_config p ≡ o
config_back (PutConfig generation c) p is = ap put_config (cc)
config_back Get p is = absurd cc
config_back (PutData version value) p is = absurd cc

exact_op : (layout : Layout) → IsExact (op layout)
unfolding op
exact_op layout =
    exact_choose code_of _
    (tagged_just code_of Get _
    (tagged_variant code_of 1 put_data data_of _ _ (exact_pair long _ exact_long (λ version. exact_datum layout.format)) (λ p. refl) data_back (λ p. refl)
    (tagged_variant code_of 2 put_config config_of _ _ (exact_pair long _ exact_long (λ generation. exact_config layout)) (λ p. refl) config_back (λ p. refl)
    (tagged_nothing code_of))))

-- KINDS

user_back : (k : Kind) (p : ℕ × ℕ) → user_of k ≡ Some p → user p ≡ k
user_back (User n body) p is = ap user (cc)
user_back _ p is = absurd cc

read_back : (k : Kind) (p : ℕ) → read_of k ≡ Some p → Read p ≡ k
read_back (Read rec) p is = cc
read_back _ p is = absurd cc

write_back : (k : Kind) (p : ℕ × Datum) → write_of k ≡ Some p → write p ≡ k
write_back (Write rec value) p is = ap write (cc)
write_back _ p is = absurd cc

reconf_back : (k : Kind) (p : ℕ × Voting) → reconf_of k ≡ Some p → reconf p ≡ k
reconf_back (Reconf rec c) p is = ap reconf (cc)
reconf_back _ p is = absurd cc

exact_kind : (layout : Layout) → IsExact (kind layout)
unfolding kind
exact_kind layout =
    exact_choose kind_tag _
    (tagged_variant kind_tag 0 user user_of _ _ (exact_pair byte _ exact_byte (λ n. exact_word)) (λ p. refl) user_back (λ p. refl)
    (tagged_variant kind_tag 1 Read read_of _ _ exact_byte (λ p. refl) read_back (λ p. refl)
    (tagged_variant kind_tag 2 write write_of _ _ (exact_pair byte _ exact_byte (λ rec. exact_datum layout.format)) (λ p. refl) write_back (λ p. refl)
    (tagged_variant kind_tag 3 reconf reconf_of _ _ (exact_pair byte _ exact_byte (λ rec. exact_config layout)) (λ p. refl) reconf_back (λ p. refl)
    (tagged_just kind_tag Access _
    (tagged_nothing kind_tag))))))

-- ENDS

value_back : (a : Answer) (n : Datum) → value_of a ≡ Some n → Value n ≡ a
value_back (Value value) n is = cc
value_back _ n is = absurd cc

generation_back : (a : Answer) (n : ℕ) → generation_of a ≡ Some n → Generation n ≡ a
generation_back (Generation generation) n is = cc
generation_back _ n is = absurd cc

reply_back : (a : Answer) (t : Tuple) → reply_of a ≡ Some t → Reply t ≡ a
reply_back (Reply x) t is = cc
reply_back _ t is = absurd cc

exact_answer : (layout : Layout) → IsExact (answer layout)
unfolding answer
exact_answer layout =
    exact_choose answer_tag _
    (tagged_just answer_tag Nothing _
    (tagged_variant answer_tag 1 Value value_of _ _ (exact_datum layout.format) (λ n. refl) value_back (λ n. refl)
    (tagged_variant answer_tag 2 Generation generation_of _ _ exact_long (λ n. refl) generation_back (λ n. refl)
    (tagged_variant answer_tag 3 Reply reply_of _ _ (exact_tuple layout) (λ t. refl) reply_back (λ t. refl)
    (tagged_nothing answer_tag)))))

asked_back : (c : Cause) (n : Name) → asked_of c ≡ Some n → cause_is.Asked n ≡ c
asked_back (cause_is.Asked by) n is = cc
asked_back _ n is = absurd cc

conflict_back : (c : Cause) (p : ℕ × Name) → conflict_of c ≡ Some p → conflict p ≡ c
conflict_back (cause_is.Conflict copy holder) p is = ap conflict (cc)
conflict_back _ p is = absurd cc

lack_back : (c : Cause) (l : Lack) → lack_of c ≡ Some l → cause_is.NoQuorum l ≡ c
lack_back (cause_is.NoQuorum x) l is = cc
lack_back _ l is = absurd cc

orphan_back : (c : Cause) (n : Name) → orphan_of c ≡ Some n → cause_is.Orphan n ≡ c
orphan_back (cause_is.Orphan ancestor) n is = cc
orphan_back _ n is = absurd cc

child_back : (c : Cause) (n : Name) → child_of c ≡ Some n → cause_is.Child n ≡ c
child_back (cause_is.Child child) n is = cc
child_back _ n is = absurd cc

exact_cause : IsExact cause
unfolding cause
exact_cause =
    exact_choose cause_tag _
    (tagged_variant cause_tag 0 cause_is.Asked asked_of _ _ (exact_name 1) (λ n. refl) asked_back (λ n. refl)
    (tagged_variant cause_tag 1 conflict conflict_of _ _ (exact_pair byte _ exact_byte (λ copy. exact_name 1)) (λ p. refl) conflict_back (λ p. refl)
    (tagged_variant cause_tag 2 cause_is.NoQuorum lack_of _ _ exact_lack (λ l. refl) lack_back (λ l. refl)
    (tagged_just cause_tag cause_is.Last _
    (tagged_variant cause_tag 4 cause_is.Orphan orphan_of _ _ (exact_name 1) (λ n. refl) orphan_back (λ n. refl)
    (tagged_just cause_tag cause_is.Killed _
    (tagged_variant cause_tag 6 cause_is.Child child_of _ _ (exact_name 1) (λ n. refl) child_back (λ n. refl)
    (tagged_just cause_tag cause_is.Missed _
    (tagged_nothing cause_tag)))))))))

commit_back : (h : How) (a : Answer) → commit_of h ≡ Some a → Commit a ≡ h
commit_back (Commit x) a is = cc
commit_back _ a is = absurd cc

abort_back : (h : How) (c : Cause) → abort_of h ≡ Some c → Abort c ≡ h
abort_back (Abort x) c is = cc
abort_back _ c is = absurd cc

exact_how : (layout : Layout) → IsExact (how layout)
unfolding how
exact_how layout =
    exact_choose how_tag _
    (tagged_variant how_tag 0 Commit commit_of _ _ (exact_answer layout) (λ a. refl) commit_back (λ a. refl)
    (tagged_variant how_tag 1 Abort abort_of _ _ exact_cause (λ c. refl) abort_back (λ c. refl)
    (tagged_nothing how_tag)))

-- REQUESTS AND REFUSALS

exact_ask : (layout : Layout) → IsExact (ask layout)
unfolding ask
exact_ask layout =
    exact_as _ _ Any _ (exact_pair (name 1) _ (exact_name 1) (λ access. exact_pair byte _ exact_byte (λ copy. exact_pair byte _ exact_byte (λ rec. exact_op layout))))
    (λ a fits any. refl) (λ p fits. (refl, tt))

blocked_back : (r : Refusal) (n : Name) → blocked_of r ≡ Some n → Blocked n ≡ r
blocked_back (Blocked holder) n is = cc
blocked_back _ n is = absurd cc

dead_back : (r : Refusal) (n : Name) → dead_of r ≡ Some n → Dead n ≡ r
dead_back (Dead ancestor) n is = cc
dead_back _ n is = absurd cc

exact_refusal : IsExact refusal
unfolding refusal
exact_refusal =
    exact_choose refusal_tag _
    (tagged_variant refusal_tag 0 Blocked blocked_of _ _ (exact_name 1) (λ n. refl) blocked_back (λ n. refl)
    (tagged_variant refusal_tag 1 Dead dead_of _ _ (exact_name 1) (λ n. refl) dead_back (λ n. refl)
    (tagged_nothing refusal_tag)))

-- EVENTS

start_back : (e : Event) (p : Name × Kind) → start_of e ≡ Some p → start p ≡ e
start_back (event_is.Start n k) p is = ap start (cc)
start_back _ p is = absurd cc

ask_back : (e : Event) (a : Ask) → ask_of e ≡ Some a → event_is.Ask a ≡ e
ask_back (event_is.Ask x) a is = cc
ask_back _ a is = absurd cc

gone_back : (e : Event) (p : Name × Why) → gone_of e ≡ Some p → gone p ≡ e
gone_back (event_is.Gone access w) p is = ap gone (cc)
gone_back _ p is = absurd cc

granted_back : (e : Event) (p : ℕ × Grant) → granted_of e ≡ Some p → grant_of_copy p ≡ e
granted_back (event_is.Granted copy grant) p is = ap grant_of_copy (cc)
granted_back _ p is = absurd cc

refused_back : (e : Event) (p : Name × (ℕ × Refusal)) → refused_of e ≡ Some p → refused p ≡ e
refused_back (event_is.Refused access copy r) p is = ap refused (cc)
refused_back _ p is = absurd cc

ready_back : (e : Event) (n : Name) → ready_of e ≡ Some n → event_is.Ready n ≡ e
ready_back (event_is.Ready top) n is = cc
ready_back _ n is = absurd cc

end_back : (e : Event) (p : Name × How) → end_of e ≡ Some p → end p ≡ e
end_back (event_is.End n h) p is = ap end (cc)
end_back _ p is = absurd cc

unable_back : (e : Event) (p : Name × Why) → unable_of e ≡ Some p → unable p ≡ e
unable_back (event_is.Unable n w) p is = ap unable (cc)
unable_back _ p is = absurd cc

mark_back : (e : Event) (p : Name × ℕ) → mark_of e ≡ Some p → mark p ≡ e
mark_back (event_is.Mark by n) p is = ap mark (cc)
mark_back _ p is = absurd cc

exact_event : (layout : Layout) → IsExact (event layout)
unfolding event
exact_event layout =
    exact_choose event_tag _
    (tagged_variant event_tag 1 start start_of _ _ (exact_pair (name 1) _ (exact_name 1) (λ n. exact_kind layout)) (λ p. refl) start_back (λ p. refl)
    (tagged_variant event_tag 2 event_is.Ask ask_of _ _ (exact_ask layout) (λ a. refl) ask_back (λ a. refl)
    (tagged_variant event_tag 3 gone gone_of _ _ (exact_pair (name 1) _ (exact_name 1) (λ n. exact_why)) (λ p. refl) gone_back (λ p. refl)
    (tagged_variant event_tag 4 grant_of_copy granted_of _ _ (exact_pair byte _ exact_byte (λ copy. exact_granted 1 layout)) (λ p. refl) granted_back (λ p. refl)
    (tagged_variant event_tag 5 refused refused_of _ _ (exact_pair (name 1) _ (exact_name 1) (λ n. exact_pair byte _ exact_byte (λ copy. exact_refusal))) (λ p. refl) refused_back (λ p. refl)
    (tagged_variant event_tag 6 event_is.Ready ready_of _ _ (exact_name 1) (λ n. refl) ready_back (λ n. refl)
    (tagged_variant event_tag 7 end end_of _ _ (exact_pair (name 1) _ (exact_name 1) (λ n. exact_how layout)) (λ p. refl) end_back (λ p. refl)
    (tagged_variant event_tag 8 unable unable_of _ _ (exact_pair (name 1) _ (exact_name 1) (λ n. exact_inability)) (λ p. refl) unable_back (λ p. refl)
    (tagged_variant event_tag 9 mark mark_of _ _ (exact_pair (name 1) _ (exact_name 1) (λ n. exact_only is_session byte exact_byte)) (λ p. refl) mark_back (λ p. refl)
    (tagged_nothing event_tag))))))))))

pub exact_entry : (layout : Layout) → IsExact (entry layout)
unfolding entry
exact_entry layout = exact_as _ _ Any _ (exact_pair word _ exact_word (λ seat. exact_event layout)) (λ e fits any. refl) (λ p fits. (refl, tt))
