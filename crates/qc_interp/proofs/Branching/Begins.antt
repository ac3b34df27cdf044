-- A branch that begins, or does not.
use Rattle.std.proofs.Common.{◌≡◌, ℕ, true, [], ◌∷◌, ◌++◌, sym, ap, ◌∙◌, subst, None}
use Rattle.std.specs.Prelude.{not, ◌==◌, filter}
use Rattle.std.specs.List.{list_any}
use Rattle.qc_event.specs.declared.event.Event.TheVariants as event
use Rattle.qc_event.specs.declared.event.Kind.TheVariants as kind
use Rattle.qc_event.specs.History.{Past, Name, is_child}
use Rattle.qc_event.specs.Legal.{Legal}
use Rattle.qc_script.specs.declared.tx.TxNo.{TxNo}
use Rattle.qc_script.specs.declared.tx.TxNo.TheVariants as tx_no
use Rattle.qc_script.specs.Calls.{by_client, MeetsLink, NoneUnder, WasRefused, Branched, Showed, Merged}
use Rattle.qc_script.specs.Client.{Client, ClientView, is_own, branch_of, Made, HasJoined}
use Rattle.qc_script.specs.Plan.{Numbered}
use Rattle.qc_event.specs.Standing.{Started, IsUser}
use Rattle.qc_event.proofs.Later.{started_still}
use Rattle.qc_event.specs.declared.short.Short.TheVariants.{Memory}
use Rattle.qc_interp.specs.AtOnce.{StandingBranch, HasBegun, NotBegun}
use Rattle.qc_interp.proofs.Scopes.Growth.{made_itself, made_after, made_both}
use Rattle.qc_interp.proofs.Branching.Joined.{joined_itself}
use Rattle.qc_interp.proofs.Branching.MadeBy.{none_of, none_mine, none_more, none_under, made_among, joins_more, left_out, refused_later}
use Rattle.qc_interp.proofs.Trying.TriesLeft.{refused_made}

module _ (v u : ClientView) (of : Name) (b : ClientView) (made : Branched v u of b) where
  branched : b.client ≡ branch_of v.client made.number of
  branched = ap (λ (x : ClientView). x.client) made.branch

  saw : b.seen ≡ v.seen
  saw = ap (λ (x : ClientView). x.seen) made.branch

  -- the client is the same but for its branch
  made_still : (es x y : Past) → Made u.client es x y → Made v.client es x y
  made_still es x y m = by_client_is u.client (ap (λ (x : ClientView). x.client) made.left) m
    where
      by_client_is : (c : Client) → c ≡ record v.client { out = made.number ∷ v.client.out } → Made c es x y → Made v.client es x y
      by_client_is c is m = let n = subst (λ d. Made d es x y) is m in record { newer = n.newer; grown = n.grown; made = n.made; legal = n.legal }

  module _ (w begun shown : ClientView) (first : Name) (number : ℕ) (body : Numbered) (same : number ≡ body.number) (kept : begun.client ≡ b.client) (is_one : is_child of first ≡ true)
      (m : Made b.client (by_client b.client (event.Start first (kind.User b.client.session number)) ∷ []) b.seen begun.seen) (showed : Showed u w begun shown) (met : MeetsLink shown) where
    client_is : shown.client ≡ b.client
    client_is = showed.branch_client ∙ kept

    number_is : shown.client.number ≡ made.number
    number_is = ap (λ (x : Client). x.number) (client_is ∙ branched)

    pub began : HasBegun v w of (record { view = shown; body = body; first = first; came = None })
    began = record {
      client = client_is ∙ branched ∙ ap (λ k. branch_of v.client k of) (sym number_is);
      other = ap (is_own v.client) number_is ∙ made.other;
      not_out = ap (λ n. list_any (λ k. k == n) v.client.out) number_is ∙ made.not_out;
      none = subst (λ n. NoneUnder n v.seen) (sym number_is) made.none;
      left = showed.client ∙ ap (λ (x : ClientView). x.client) made.left ∙ ap (λ n. record v.client { out = n ∷ v.client.out }) (sym number_is);
      seen = showed.seen;
      made = made_still [] v.seen w.seen (subst (λ x. Made u.client [] x w.seen) (ap (λ (x : ClientView). x.seen) made.left) showed.made);
      is_one = is_one;
      branch_made = subst (λ d. Made d (by_client d (event.Start first (kind.User d.session body.number)) ∷ []) v.seen w.seen) (sym client_is)
          (subst (λ n. Made b.client (by_client b.client (event.Start first (kind.User b.client.session n)) ∷ []) v.seen w.seen) same
          (subst (λ x. Made b.client (by_client b.client (event.Start first (kind.User b.client.session number)) ∷ []) x w.seen) saw
          (made_after b.client _ b.seen begun.seen w.seen m (subst (λ d. Made d [] begun.seen w.seen) kept showed.branch_made))));
      met = met;
    }

  -- it was refused to begin, and merged
  pub not_begun : (body : Numbered) (begun w : ClientView) (why : TxNo) → begun.client ≡ b.client → WasRefused b.client of b.seen begun.seen why → Merged u begun w → NotBegun v w of why
  not_begun body begun w why kept refused merged = record {
    joined = subst (HasJoined v.client v.seen) (sym is) (joins_more v.client (made.number ∷ []) v.client.out v.seen (none_under made.number v.seen made.none));
    refused = subst (λ d. WasRefused d of v.seen w.seen why) (sym is)
        (refused_later b.client d of b.seen begun.seen v.seen w.seen merged.branch_made.newer why merged.branch_made.grown merged.bounded none_made refused);
  }
    where
      d : Client
      d = record v.client { kin = v.client.kin ++ made.number ∷ [] }

      begun_is : begun.client ≡ branch_of v.client made.number of
      begun_is = kept ∙ branched

      is : w.client ≡ d
      is =
          merged.client
          ∙ ap (λ (x : Client). record x { kin = x.kin ++ begun.client.number ∷ begun.client.kin; out = filter (λ k. not (k == begun.client.number)) x.out }) (ap (λ (x : ClientView). x.client) made.left)
          ∙ ap (λ (x : Client). record v.client { kin = v.client.kin ++ x.number ∷ x.kin; out = filter (λ k. not (k == x.number)) (made.number ∷ v.client.out) }) begun_is
          ∙ ap (λ o. record v.client { kin = v.client.kin ++ made.number ∷ []; out = o }) (left_out made.number v.client.out made.not_out)

      branch_none : Made b.client [] v.seen w.seen
      branch_none = subst (λ x. Made b.client [] x w.seen) saw
          (made_both b.client b.seen begun.seen w.seen (refused_made b.client of body b.seen begun.seen why refused) (subst (λ x. Made x [] begun.seen w.seen) kept merged.branch_made))

      own_none : Made v.client [] v.seen w.seen
      own_none = made_still [] v.seen w.seen (subst (λ x. Made u.client [] x w.seen) (ap (λ (x : ClientView). x.seen) made.left) merged.made)

      none_made : Made d [] v.seen w.seen
      none_made =
          let branch = subst (λ x. Made x [] v.seen w.seen) branched branch_none in
          record {
            newer = own_none.newer;
            grown = own_none.grown;
            made = none_mine d own_none.newer (none_more v.client (made.number ∷ []) own_none.newer (none_of v.client own_none.newer own_none.made) (none_of (branch_of v.client made.number of) own_none.newer (made_among (branch_of v.client made.number of) [] own_none.newer v.seen w.seen own_none.grown branch)));
            legal = own_none.legal;
          }

-- no branch was made
pub none_begun : (v : ClientView) (of : Name) → Legal v.client.setting v.seen → NotBegun v v of (tx_no.Short Memory)
none_begun v of legal = record { joined = joined_itself v.client v.seen; refused = (made_itself v.client v.seen legal, tt) }

-- behind one that was begun the next may begin
module _ (v w : ClientView) (of : Name) (b : StandingBranch) (begun : HasBegun v w of b) where
  pub begun_legal : Legal w.client.setting w.seen
  begun_legal = subst (λ (c : Client). Legal c.setting w.seen) (sym begun.left) begun.made.legal

  pub begun_started : Started v.seen of (λ e. IsUser e.kind) → Started w.seen of (λ e. IsUser e.kind)
  begun_started user = subst (λ h. Started h of (λ e. IsUser e.kind)) (sym begun.made.grown) (started_still begun.made.newer v.seen of _ user)

-- what was seen where one was not begun
pub not_begun_legal : (v w : ClientView) (of : Name) (body : Numbered) (why : TxNo) → NotBegun v w of why → Legal w.client.setting w.seen
not_begun_legal v w of body why n = (refused_made w.client of body v.seen w.seen why n.refused).legal
