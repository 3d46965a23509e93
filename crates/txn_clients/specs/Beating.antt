-- What clients can have arisen from where a heartbeat sends something beside their calls: it commits nothing, locks nothing and needs no
-- licence, and its numbers are its own.
use Rattle.std.specs.Prelude.{◌≡◌, ℕ, true, false, List, [], ◌∷◌}
use Rattle.std.proofs.Common.{inl, inr, sym, ap, ◌∙◌, subst}
use Rattle.std.proofs.lemmas.List.Elements.{All-nil}
use Rattle.txn_kv.specs.declared.request.locks.PessimisticLockRequest.{PessimisticLockRequest}
use Rattle.txn_kv.specs.declared.request.Request.{Request}
use Rattle.txn_kv.specs.declared.request.Request.TheVariants as requests
use Rattle.txn_kv.specs.declared.ticket.Ticket.{Ticket}
use Rattle.txn_history.specs.Event.{Event}
use Rattle.txn_history.specs.Event.Event.{Sent}
use Rattle.txn_history.specs.Later.{IsLater-refl}
use Rattle.txn_history.specs.Licence.{IsLicensed}
use Rattle.txn_history.specs.Meaning.{IsLawful}
use Rattle.txn_history.specs.Plan.{Plan}
use Rattle.txn_history.specs.Posted.{Within-one}
use Rattle.txn_law.specs.Run.{IsCovered, IsPossible, IsUnused}
use Rattle.txn_commit.specs.Ways.{Ways}
use Rattle.txn_side.specs.Doubt.{itself}
use Rattle.txn_side.specs.Arising.{Arises, IsBeat}
use Rattle.txn_trace.specs.Posting.{IsFreshFor}
use Rattle.txn_trace.proofs.Fitting.{fits_more}
use Rattle.txn_trace.proofs.Lines.{fresh_on, sent_ticket}
use Rattle.txn_trace.proofs.Seen.{had_seen}
use Rattle.txn_trace.proofs.Timing.{answerable_more}
use Rattle.txn_tso.specs.Oracle.{Answer}
use Rattle.txn_clients.specs.Arising.{Arisen, ArisenFrom, HoldsAt}
use Rattle.txn_clients.specs.Clients.{row_at, rows_of}
use Rattle.txn_clients.specs.Growing.{AddsNoCommit, IsNoCommit, adds_no_commit, commits_before, draws_grow, right_same, row_stays}
use Rattle.txn_clients.specs.declared.clients.Clients.{Clients}

-- What a heartbeat sends

beat_no_commit : (t : Ticket) (r : Request) → IsBeat r → IsNoCommit (Sent t r)
beat_no_commit t (requests.Commit q) b = absurd b
beat_no_commit t r b = tt

beat_allowed : (plans : ℕ → Plan) (h : List Event) (r : Request) → IsBeat r → IsCovered r × IsLicensed plans h r
beat_allowed plans h (requests.TxnHeartBeat q) b = (tt, tt)
beat_allowed plans h (requests.GetRegion q) b = (tt, tt)
beat_allowed plans h (requests.GetRegionById q) b = (tt, tt)
beat_allowed plans h (requests.GetStore q) b = (tt, tt)
beat_allowed plans h (requests.GetAllStores q) b = (tt, tt)
beat_allowed plans h (requests.Members q) b = (tt, tt)
beat_allowed plans h r b = absurd b

sent_request : (t u : Ticket) (r q : Request) → Sent t r ≡ Sent u q → r ≡ q
sent_request t u r q e = cc

two : true ≡ false → ⊥
two e = cc

-- no line's calls have used its number
fresh_beating : (n next ask : ℕ) (t : Ticket) (r : Request) (h : List Event) → t.beat ≡ true → IsFreshFor n false next ask h → IsFreshFor n false next ask (Sent t r ∷ h)
fresh_beating n next ask t r h beat f = fresh_on n false next ask (Sent t r) h
    (λ u q x w. absurd (two (sym beat ∙ ap (λ (v : Ticket). v.beat) (sent_ticket t u r q x) ∙ w.1)))
    (λ u ms x w. absurd (cc))
    (λ u x w. absurd (cc))
    f

-- The whole

module _ {P : Type 0} (w : Ways P) where
  arisen_beating : (s : Clients P) (askers : Ticket → List ℕ) (rest : List Answer) (h : List Event) (t : Ticket) (r : Request) → IsLawful w.plan → t.beat ≡ true → IsBeat r → IsUnused h t
      → Arisen w s askers rest h → Arisen w s askers rest (Sent t r ∷ h)
  arisen_beating s askers rest h t r p beat beats unused a = record {
    run = λ plans have. (unused, beat_allowed plans h r beats, a.run plans have);
    rows = λ i. row_stays w p (rows_of s) _ _ h (Sent t r ∷ h) (row_at (rows_of s) i) (IsLater-refl _) adds (a.rows i);
    oracles = λ c. fits_more _ _ h (Sent t r) (a.oracles c);
    fresh = λ n. fresh_beating n _ _ t r h beat (a.fresh n);
    draws = draws_grow s askers rest h (Sent t r ∷ h) (Within-one (Sent t r) h) a.draws;
    answerable = answerable_more rest h (Sent t r) a.answerable;
    owned = λ u x i. a.owned u x (commits_before h (Sent t r ∷ h) u x adds i);
    optimistic = λ u x i. elim i [ inl same ↦ locks_nothing u x same | inr was ↦ a.optimistic u x was ];
    apart = a.apart;
  }
    where
      adds : AddsNoCommit h (Sent t r ∷ h)
      adds = adds_no_commit (Sent t r) h (beat_no_commit t r beats)

      locks_nothing : (u : Ticket) (x : PessimisticLockRequest) → Sent t r ≡ Sent u (requests.PessimisticLock x) → ⊥
      locks_nothing u x same = subst IsBeat (sent_request t u r (requests.PessimisticLock x) same) beats

  -- A heartbeat sends this with a ticket of its own.
  pub arises_when_beating : (s : Clients P) (h : List Event) (t : Ticket) (r : Request) → t.beat ≡ true → IsBeat r → IsPossible h (Sent t r) → ArisenFrom w s h
      → Arises (ArisenFrom w s) (λ h x o. HoldsAt (rows_of s) h x o) (λ x o. HoldsAt (rows_of s) h x o) itself (Sent t r ∷ h) []
  arises_when_beating s h t r beat beats may (laws, askers, g, shows, a) = record {
    now = (laws, askers, Sent t r ∷ g, ap (λ x. Sent t r ∷ x) shows, arisen_beating s askers [] g t r laws.lawful beat beats unused a);
    kept = λ x o. right_same (rows_of s) x o h (Sent t r ∷ h) (λ y i. inr i);
    answers = All-nil _;
    says = All-nil _;
  }
    where
      unused : IsUnused g t
      unused q i = subst (λ x. IsUnused x t) (sym shows) may q (had_seen g (Sent t q) tt i)
