-- Every configuration that a legal history tells of is for as many copies as there are.
use Rattle.std.proofs.Common.{◌≡◌, ℕ, List, [], ◌∷◌, length, refl, sym, ap, ◌∙◌, subst, inl, inr}
use Rattle.std.specs.Prelude.{Option, None, Some, MatchOption, filter, filter_map}
use Rattle.std.specs.List.{AllByRecursion, cons_option}
use Rattle.qc_config.specs.Config.{Voting}
use Rattle.qc_config.specs.declared.tuple.Op.{Op}
use Rattle.qc_config.specs.declared.tuple.Op.TheVariants.{Get, PutData, PutConfig}
use Rattle.qc_config.specs.declared.tuple.Tuple.{Tuple}
use Rattle.qc_config.specs.Tuple.{after}
use Rattle.qc_event.specs.declared.event.Answer.TheVariants as answer
use Rattle.qc_event.specs.declared.event.Ask.{Ask}
use Rattle.qc_event.specs.declared.event.Event.{Event}
use Rattle.qc_event.specs.declared.event.Event.TheVariants as event
use Rattle.qc_event.specs.declared.event.How.{How}
use Rattle.qc_event.specs.declared.event.How.TheVariants.{Commit, Abort}
use Rattle.qc_event.specs.declared.event.Kind.{Kind}
use Rattle.qc_event.specs.declared.event.Kind.TheVariants as kind
use Rattle.qc_event.specs.declared.event.Refusal.{Refusal}
use Rattle.qc_event.specs.declared.event.Refusal.TheVariants.{Blocked, Dead}
use Rattle.qc_event.specs.declared.event.Why.{Why}
use Rattle.qc_event.specs.Base.{Setting, start_tuple}
use Rattle.qc_event.specs.Clear.{is_get}
use Rattle.qc_event.specs.Commits.{MayCommit, manager_answer}
use Rattle.qc_event.specs.Grants.{MayGrant, Sets}
use Rattle.qc_event.specs.History.{Past, Name, Begun, Given, same, start, end, granted, grant_in, gone, refused, asks}
use Rattle.qc_event.specs.Legal.{Legal, MayHappen, MayEnd}
use Rattle.qc_event.specs.Manager.{result_by, reply_of, reply, replies, newest}
use Rattle.qc_event.specs.Seen.{seen}
use Rattle.qc_event.proofs.OneEntry.{if_is, first_is, end_step}
use Rattle.qc_event.proofs.PutConfigs.{OpHas, after_has, seen_has}
use Rattle.qc_event.proofs.Sizes as sizes

-- a tuple's configuration is for this many copies
abbrev pub IsSized : ℕ → Tuple → Type 0
IsSized size t = length t.config.votes ≡ size

-- and that of an operation, where it has one
abbrev pub OpSized : ℕ → Op → Type 0
OpSized size = OpHas (λ (c : Voting). length c.votes ≡ size)

pub after_sized : (size : ℕ) (t : Tuple) (op : Op) → IsSized size t → OpSized size op → IsSized size (after t op)
after_sized size = after_has (λ (c : Voting). length c.votes ≡ size)

-- GRANTS

granting : (n : Name) (ev : Event) (g : Given) → grant_in n ev ≡ Some g → ev ≡ event.Granted g.copy g.grant
granting n (event.Granted copy grant) g h = ap (λ (x : Given). event.Granted x.copy x.grant) (if_is (same grant.access n) (record { copy = copy; grant = grant }) g h).1
granting n _ g h = absurd cc

pub granted_sized : (setting : Setting) (past : Past) (n : Name) (g : Given) → Legal setting past → granted past n ≡ Some g → IsSized (length setting.base) g.grant.tuple
granted_sized setting [] n g legal is = absurd cc
granted_sized setting (e ∷ past) n g legal is = elim (first_is (granted past n) (grant_in n e.event) g is) [
  | inl old ↦ granted_sized setting past n g legal.0 old
  | inr new ↦ let may : MayGrant setting past e.seat g.copy g.grant = subst (MayHappen setting past e.seat) (granting n e.event g new.1) legal.1 in may.for_copies
]

set_sized : (size : ℕ) (op : Op) (t : Tuple) → Sets op t → IsSized size t → OpSized size op
set_sized size Get t sets here = tt
set_sized size (PutData version value) t sets here = tt
set_sized size (PutConfig generation config) t sets here = ap (λ (c : Voting). length c.votes) (sym sets.1) ∙ here

-- WHAT A COPY HOLDS

-- what a copy has of a record is for as many copies, where its start tuple is
pub seen_sized : (setting : Setting) (past : Past) (copy rec : ℕ) → Legal setting past → IsSized (length setting.base) (start_tuple setting.base copy rec) → IsSized (length setting.base) (seen setting.base past copy rec)
seen_sized setting past copy rec =
    seen_has (λ (c : Voting). length c.votes ≡ length setting.base) setting past copy rec (λ older seat c g legal may. set_sized (length setting.base) g.op g.tuple may.sets may.for_copies)

-- REPLIES

-- no manager answers a tuple
no_reply : (past : Past) (first : Voting) (m : Name) (k : Kind) (t : Tuple) → answer.Reply t ≡ manager_answer past first m k → ⊥
no_reply past first m (kind.Read rec) t is = cc
no_reply past first m (kind.Reconf rec config) t is = cc
no_reply past first m (kind.Write rec value) t is = cc
no_reply past first m (kind.User session body) t is = cc
no_reply past first m kind.Access t is = cc

-- who commits with a tuple was granted it
commit_sized : (setting : Setting) (past : Past) (seat : ℕ) (n : Name) (b : Begun) (t : Tuple) (k : Kind) → Legal setting past → MayCommit setting past seat n b (answer.Reply t) k → IsSized (length setting.base) t
commit_sized setting past seat n b t kind.Access legal may = by_grant (granted past n) refl may.reply
  where
    by_grant : (o : Option Given) → granted past n ≡ o → MatchOption o ⊥ (λ g. answer.Reply t ≡ answer.Reply g.grant.tuple) → IsSized (length setting.base) t
    by_grant None at replies = absurd replies
    by_grant (Some g) at replies = let same : t ≡ g.grant.tuple = cc in ap (λ (x : Tuple). length x.config.votes) same ∙ granted_sized setting past n g legal at
commit_sized setting past seat n b t (kind.User session body) legal may = by_name n may
  where
    never : answer.Reply t ≡ answer.Nothing → ⊥
    never is = cc

    by_name : (m : Name) → MayCommit setting past seat m b (answer.Reply t) (kind.User session body) → IsSized (length setting.base) t
    by_name [] may = absurd (never may.nothing)
    by_name (x ∷ []) may = absurd (never may.nothing)
    by_name (x ∷ y ∷ r) may = absurd (never may.nothing)
commit_sized setting past seat n b t (kind.Read rec) legal may = absurd (no_reply past _ n b.kind t may.answers)
commit_sized setting past seat n b t (kind.Write rec value) legal may = absurd (no_reply past _ n b.kind t may.answers)
commit_sized setting past seat n b t (kind.Reconf rec config) legal may = absurd (no_reply past _ n b.kind t may.answers)

end_sized : (setting : Setting) (past : Past) (n : Name) (t : Tuple) → Legal setting past → end past n ≡ Some (Commit (answer.Reply t)) → IsSized (length setting.base) t
end_sized setting [] n t legal is = absurd cc
end_sized setting (e ∷ past) n t legal is = elim (end_step e past n (Commit (answer.Reply t)) is) [
  | inl old ↦ end_sized setting past n t legal.0 old
  | inr now ↦ by_start (start past n) (subst (MayHappen setting past e.seat) now.1 legal.1)
]
  where
    by_start : (o : Option Begun) → MatchOption o ⊥ (MayEnd setting past e.seat n (Commit (answer.Reply t))) → IsSized (length setting.base) t
    by_start None may = absurd may
    by_start (Some b) may = commit_sized setting past e.seat n b t b.kind legal.0 may

reply_end : (how : Option How) (why : Option Why) (refusal : Option Refusal) (t : Tuple) → reply_of (result_by how why refusal) ≡ Some t → how ≡ Some (Commit (answer.Reply t))
reply_end None why refusal t is = absurd cc
reply_end (Some (Commit answer.Nothing)) why refusal t is = absurd cc
reply_end (Some (Commit (answer.Value value))) why refusal t is = absurd cc
reply_end (Some (Commit (answer.Generation generation))) why refusal t is = absurd cc
reply_end (Some (Commit (answer.Reply tuple))) why refusal t is = let same : tuple ≡ t = cc in ap (λ x. Some (Commit (answer.Reply x))) same
reply_end (Some (Abort cause)) (Some why) refusal t is = absurd cc
reply_end (Some (Abort cause)) None None t is = absurd cc
reply_end (Some (Abort cause)) None (Some (Blocked holder)) t is = absurd cc
reply_end (Some (Abort cause)) None (Some (Dead a)) t is = absurd cc

-- what an access replied is for as many copies
reply_sized : (setting : Setting) (past : Past) (n : Name) (t : Tuple) → Legal setting past → reply past n ≡ Some t → IsSized (length setting.base) t
reply_sized setting past n t legal is = end_sized setting past n t legal (reply_end (end past n) (gone past n) (refused past n) t is)

replies_sized : (setting : Setting) (past : Past) → Legal setting past → (requests : List Ask) → AllByRecursion (IsSized (length setting.base)) (filter_map (λ (ask : Ask). reply past ask.access) requests)
replies_sized setting past legal [] = tt
replies_sized setting past legal (a ∷ rest) = by_reply (reply past a.access) (λ t is. reply_sized setting past a.access t legal is) (replies_sized setting past legal rest)
  where
    by_reply : (o : Option Tuple) → ((t : Tuple) → o ≡ Some t → IsSized (length setting.base) t) → AllByRecursion (IsSized (length setting.base)) (filter_map (λ (ask : Ask). reply past ask.access) rest) → AllByRecursion (IsSized (length setting.base)) (cons_option o (filter_map (λ (ask : Ask). reply past ask.access) rest))
    by_reply None sized below = below
    by_reply (Some t) sized below = (sized t refl, below)

-- a manager's newest configuration is for as many copies, where its record's first one is
pub newest_sized : (setting : Setting) (past : Past) (first : Voting) (m : Name) → Legal setting past → length first.votes ≡ length setting.base → length (newest past first m).config.votes ≡ length setting.base
newest_sized setting past first m legal here = sizes.newest_sized (length setting.base) (record { generation = 0; config = first }) (replies past m) here (replies_sized setting past legal (filter (λ (ask : Ask). is_get ask.op) (asks past m)))
