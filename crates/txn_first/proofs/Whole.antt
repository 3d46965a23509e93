-- The law of licensed runs, said of the transaction of the lines.
use Rattle.std.proofs.Common.{◌≡◌, ℕ, zero, suc, ◌⊎◌, inl, inr, Bool, true, false, not, ◌&&◌, ◌||◌, if◌then◌else◌, List, [], ◌∷◌, Option, Some, None, length, slice_get, nat_eq, refl, sym, ap, ◌∙◌, subst, subst₂, arith}
use Rattle.std.proofs.lemmas.Bool.Decides.{nat_tests}
use Rattle.txn_kv.specs.declared.ticket.Ticket.{Ticket}
use Rattle.txn_kv.specs.declared.request.Request.{Request}
use Rattle.txn_kv.specs.declared.request.Request.TheVariants.{Prewrite}
use Rattle.txn_kv.specs.declared.request.commits.PrewriteRequest.{PrewriteRequest}
use Rattle.txn_kv.specs.declared.reply.Reply.TheVariants as reply
use Rattle.txn_history.specs.Among.{IsAmong}
use Rattle.txn_history.specs.Event.{Event, Has, sent_request}
use Rattle.txn_history.specs.Event.Event.{Sent}
use Rattle.txn_history.specs.Licence.{PrewriteLicence, PrimaryCommitted, WasNamed, IsLicensed}
use Rattle.txn_history.specs.Plan.{Plan}
use Rattle.txn_model.proofs.Keys.{key_itself}
use Rattle.txn_model.specs.Cells.{cell_at}
use Rattle.txn_law.specs.Lone.{put_of, lone_plan}
use Rattle.txn_law.specs.Run.{IsRun}
use Rattle.txn_law.specs.Whole.{HasCommit, IsWholeAt, FitsAnswers}
use Rattle.txn_law.proofs.Kept.{kept}
use Rattle.txn_law.proofs.Taken.{sent_taken}
use Rattle.txn_law.proofs.Tickets.{unused, was_sent, sent_once}
use Rattle.txn_law.proofs.Wholes.{law_by_primary, law_fits, law_named}
use Rattle.txn_script.specs.Lines.{line_at}
use Rattle.txn_script.specs.declared.line.Line.{Line}
use Rattle.txn_script.specs.declared.line.Line.TheVariants.{Blank, Client, Begin, Put, Commit, Deliver}
use Rattle.txn_report.specs.OutcomeView.{view_of_outcome}
use Rattle.txn_report.specs.declared.outcome.Outcome.{Outcome}
use Rattle.txn_report.specs.declared.outcome.Outcome.TheVariants.{Ok, Err, Unfinished, Done, Skipped}
use Rattle.txn_report.specs.declared.outcome.Payload.TheVariants.{Unit as Nothing, Number, Commit as Committed_at}
use Rattle.txn_report.specs.declared.report.SentNote.{SentNote}
use Rattle.txn_first.specs.declared.transaction.Transaction.{Transaction}
use Rattle.txn_first.specs.declared.transaction.Put.{Put as Write}
use Rattle.txn_first.specs.declared.transaction.CommitCall.{CommitCall}
use Rattle.txn_first.specs.declared.transaction.Status.{Status}
use Rattle.txn_first.specs.declared.transaction.Status.TheVariants.{Active, StartedCommit, Committed}
use Rattle.txn_first.specs.declared.machine.Row.{Row}
use Rattle.txn_first.specs.declared.machine.Row.TheVariants.{Plain, Beginning, Running, Committing}
use Rattle.txn_first.specs.Posting.{position}
use Rattle.txn_first.specs.Lists.{Lists, row_at}
use Rattle.txn_first.specs.Script.{outcome_of}
use Rattle.txn_first.specs.Causes.{is_skipped, is_commit_at, status_of, status_after}
use Rattle.txn_first.specs.Rowed.{writes_in, CommitFits, CallFits, IsBegun}
use Rattle.txn_first.specs.Stands.{request_of, request_in, StandsAt}
use Rattle.txn_first.specs.Licensed.{is_committing, is_committed, has_committed}
use Rattle.txn_first.specs.Whole.{IsPrimary, may_be_committed, plan_of, FitsCommits}
use Rattle.txn_first.proofs.Lines.{line_new, line_old, line_within, one_begin}
use Rattle.txn_first.proofs.Licences.{same_row}

-- How a transaction comes to be committed.

committed_is : (st : Status) → is_committed st ≡ true → st ≡ Committed
committed_is Active e = absurd (cc)
committed_is StartedCommit e = absurd (cc)
committed_is Committed e = refl

answer_of : (o : Outcome) → is_commit_at o ≡ true → (c : ℕ) × (o ≡ Ok (Committed_at (Some c)))
answer_of (Ok Nothing) e = absurd (cc)
answer_of (Ok (Number n)) e = absurd (cc)
answer_of (Ok (Committed_at None)) e = absurd (cc)
answer_of (Ok (Committed_at (Some c))) e = (c, refl)
answer_of (Err x) e = absurd (cc)
answer_of Unfinished e = absurd (cc)
answer_of Done e = absurd (cc)
answer_of Skipped e = absurd (cc)

became : (st : Status) (o : Outcome) → status_after st o ≡ Committed → (st ≡ Committed) ⊎ (is_commit_at o ≡ true)
became Active o e = inr (by_tests (is_skipped o) (is_commit_at o) e)
  where
    by_tests : (a b : Bool) → (if true && not a then (if b then Committed else StartedCommit) else Active) ≡ Committed → b ≡ true
    by_tests true b f = absurd (cc)
    by_tests false true f = refl
    by_tests false false f = absurd (cc)
became StartedCommit o e = inr (by_tests (is_skipped o) (is_commit_at o) e)
  where
    by_tests : (a b : Bool) → (if true && not a then (if b then Committed else StartedCommit) else StartedCommit) ≡ Committed → b ≡ true
    by_tests true b f = absurd (cc)
    by_tests false true f = refl
    by_tests false false f = absurd (cc)
became Committed o e = inl refl

-- a commit line of x that answered a timestamp, after the outcomes seen
abbrev HasAnswered : (ℕ → Outcome) → ℕ → List Line → Type 0
HasAnswered seen x ls = (n : ℕ) × (c : ℕ) × (line_at ls n ≡ Some (Commit x)) × (seen n ≡ Ok (Committed_at (Some c)))

answered_older : (seen : ℕ → Outcome) (x : ℕ) (l : Line) (ls : List Line) → HasAnswered seen x ls → HasAnswered seen x (l ∷ ls)
answered_older seen x l ls h = (h.0, h.1, line_old l ls h.0 (λ s. let w = line_within ls h.0 (Commit x) h.2 in let a = w.1 in omega arith) ∙ h.2, h.3)

pub committed_by : (seen : ℕ → Outcome) (x : ℕ) (ls : List Line) → status_of seen x ls ≡ Committed → HasAnswered seen x ls
committed_by seen x [] e = absurd (cc)
committed_by seen x (l ∷ ls) e = at l e (committed_by seen x ls)
  where
    at : (k : Line) → status_of seen x (k ∷ ls) ≡ Committed → (status_of seen x ls ≡ Committed → HasAnswered seen x ls) → HasAnswered seen x (k ∷ ls)
    at Blank f g = answered_older seen x Blank ls (g f)
    at Client f g = answered_older seen x Client ls (g f)
    at (Begin client) f g = answered_older seen x (Begin client) ls (g f)
    at (Put y k v) f g = answered_older seen x (Put y k v) ls (g f)
    at (Deliver t) f g = answered_older seen x (Deliver t) ls (g f)
    at (Commit y) f g = by_test (nat_eq y x) refl f
      where
        by_test : (b : Bool) → nat_eq y x ≡ b → (if b then status_after (status_of seen x ls) (seen (suc (length ls))) else status_of seen x ls) ≡ Committed → HasAnswered seen x (Commit y ∷ ls)
        by_test true q h =
            let s : y ≡ x = grind (arith, nat_tests) in
            elim (became (status_of seen x ls) (seen (suc (length ls))) h) [
              | inl z ↦ answered_older seen x (Commit y) ls (g z)
              | inr z ↦ (let w = answer_of (seen (suc (length ls))) z in (suc (length ls), w.0, line_new (Commit y) ls ∙ ap (λ i. Some (Commit i)) s, w.1))
            ]
        by_test false q h = answered_older seen x (Commit y) ls (g h)

-- What was sent, among the notes and among the events.

in_at : {X : Type 0} (xs : List X) (i : ℕ) (x : X) → slice_get xs i ≡ Some x → IsAmong xs x
in_at [] i x e = absurd (cc)
in_at (y ∷ xs) zero x e = inl (cc)
in_at (y ∷ xs) (suc i) x e = inr (in_at xs i x e)

at_in : {X : Type 0} (xs : List X) (x : X) → IsAmong xs x → (i : ℕ) × (slice_get xs i ≡ Some x)
at_in [] x e = absurd e
at_in (y ∷ xs) x (inl e) = (0, ap (λ z. Some z) e)
at_in (y ∷ xs) x (inr e) = let w = at_in xs x e in (suc w.0, w.1)

sent_same : (t u : Ticket) (q r : Request) → Sent t q ≡ Sent u r → q ≡ r
sent_same t u q r e = cc

sent_found : (plans : ℕ → Plan) (es : List Event) (run : IsRun plans es) (t : Ticket) (r : Request) → Has es (Sent t r) → sent_request es t ≡ Some r
sent_found plans es run t r h = by_found (sent_request es t) refl
  where
    by_found : (o : Option Request) → sent_request es t ≡ o → sent_request es t ≡ Some r
    by_found None e = absurd (unused es t e r h)
    by_found (Some q) e = e ∙ ap (λ z. Some z) (sent_once plans es run t q r (was_sent es t q e) h)

-- in a run each Prewrite names the primary of its plan
prewrite_named : (plans : ℕ → Plan) (es : List Event) → IsRun plans es → (t : Ticket) (r : PrewriteRequest) → Has es (Sent t (Prewrite r)) → r.primary_lock ≡ (plans r.start_version).primary
prewrite_named plans [] run t r h = absurd h
prewrite_named plans (Sent u q ∷ es) run t r h = elim h [
  | inl e ↦ (let l : PrewriteLicence (plans r.start_version) es r = subst (λ z. IsLicensed plans es z) (sent_same u t q (Prewrite r) e) run.1.1 in l.primary)
  | inr g ↦ prewrite_named plans es run.2 t r g
]
prewrite_named plans (_ ∷ es) run t r h = elim h [ inl e ↦ absurd (cc) | inr g ↦ prewrite_named plans es run.2 t r g ]

module _ (es : List Event) (l : Lists) (lines : List Line) (s : StandsAt es l lines) where
  note_sent : (n : SentNote) → IsAmong l.sent n → Has es (Sent n.ticket n.request)
  note_sent n h =
      let w = at_in l.sent n h in
      was_sent es n.ticket n.request (s.mail.listed n.ticket ∙ ap (λ z. request_in l.sent z) (s.mail.noted w.0 n w.1) ∙ ap request_of w.1)

  sent_note : (t : Ticket) (r : Request) → sent_request es t ≡ Some r → (n : SentNote) × IsAmong l.sent n × (n.request ≡ r)
  sent_note t r e = by_place (position l.tickets t) (sym (s.mail.listed t) ∙ e)
    where
      by_note : (p : ℕ) (o : Option SentNote) → slice_get l.sent p ≡ o → request_of o ≡ Some r → (n : SentNote) × IsAmong l.sent n × (n.request ≡ r)
      by_note p None f g = absurd (cc)
      by_note p (Some n) f g = (n, in_at l.sent p n f, (cc))

      by_place : (o : Option ℕ) → request_in l.sent o ≡ Some r → (n : SentNote) × IsAmong l.sent n × (n.request ≡ r)
      by_place None f = absurd (cc)
      by_place (Some p) f = by_note p (slice_get l.sent p) refl f

  -- there is one transaction
  alone : (x y : ℕ) (t u : Transaction) → row_at l.rows x ≡ Some (Running t) → row_at l.rows y ≡ Some (Running u) → u ≡ t
  alone x y t u a b =
      let h = s.fits.rowed.fits x (Running t) a in
      let k = s.fits.rowed.fits y (Running u) b in
      let is = one_begin lines y x k.client h.client s.fits.good k.line h.line in
      running_is u t (same_row (Running u) (Running t) (sym (subst (λ i. row_at l.rows i ≡ Some (Running u)) is b) ∙ a))
    where
      running_is : (a b : Transaction) → Running a ≡ Running b → a ≡ b
      running_is a b e = cc

  module _ (x : ℕ) (t : Transaction) (at : row_at l.rows x ≡ Some (Running t)) where
    -- who has sent its Commit has a commit line that is open, or answered a timestamp
    may_be : has_committed t ≡ true → (n : ℕ) × (line_at lines n ≡ Some (Commit x)) × (may_be_committed (view_of_outcome (outcome_of l.outcomes n)) ≡ true)
    may_be sent = by_call t.call refl
      where
        by_call : (c : Option CommitCall) → t.call ≡ c → (n : ℕ) × (line_at lines n ≡ Some (Commit x)) × (may_be_committed (view_of_outcome (outcome_of l.outcomes n)) ≡ true)
        by_call None e =
            let h = s.fits.rowed.fits x (Running t) at in
            let over : is_committed t.status ≡ true = sym (ap (λ z. is_committing z || is_committed t.status) e) ∙ sent in
            let w = committed_by (outcome_of l.outcomes) x lines (h.status ∙ committed_is t.status over) in
            (w.0, w.2, ap (λ o. may_be_committed (view_of_outcome o)) w.3)
        by_call (Some call) e =
            let h = s.fits.rowed.fits x (Running t) at in
            let c : CommitFits lines l.rows l.outcomes x t call = subst (λ z. CallFits lines l.rows l.outcomes x t z) e h.call in
            (call.line, c.line, ap (λ o. may_be_committed (view_of_outcome o)) c.waits)

    -- it writes
    module _ (p : Write) (puts : t.put ≡ Some p) where
      put_is : (y : ℕ) (u : Transaction) (q : Write) → row_at l.rows y ≡ Some (Running u) → u.put ≡ Some q → q ≡ p
      put_is y u q e f = some_is q p (sym f ∙ ap (λ z. z.put) (alone x y t u at e) ∙ puts)
        where
          some_is : (a b : Write) → ◌≡◌ {A = Option Write} (Some a) (Some b) → a ≡ b
          some_is a b g = cc

      plan_run : IsRun (λ z. lone_plan p.key p.value) es
      plan_run = s.licensed.run p.key p.value (λ y u q e f g. (ap (λ z. z.key) (put_is y u q e f), ap (λ z. z.value) (put_is y u q e f)))

      told : (n d : ℕ) → outcome_of l.outcomes n ≡ Ok (Committed_at (Some d)) → PrimaryCommitted (lone_plan p.key p.value) es t.start d
      told n d e =
          let h = s.licensed.answered n d e in
          subst₂ (λ q u. PrimaryCommitted (lone_plan q.key q.value) es u.start d) (put_is h.x h.t h.put h.running h.puts) (alone x h.x t h.t at h.running) h.told

      primary : (c : ℕ) → WasNamed (lone_plan p.key p.value) es t.start c → IsPrimary l.sent t.start p.key
      primary c w = record { some = some; each = each }
        where
          writes : (lone_plan p.key p.value).writes p.key ≡ Some (put_of p.value)
          writes = let e = key_itself p.key in rw e refl

          some : (n : SentNote) × (r : PrewriteRequest) × IsAmong l.sent n × (n.request ≡ Prewrite r) × (r.start_version ≡ t.start)
          some =
              let i = kept (λ z. lone_plan p.key p.value) es plan_run in
              let a = (i.named t.start c w).0 p.key (put_of p.value) writes in
              let h = sent_taken (λ z. lone_plan p.key p.value) es i a.ticket (Prewrite a.request) (reply.Prewrite a.response) a.taken in
              let n = sent_note a.ticket (Prewrite a.request) (sent_found (λ z. lone_plan p.key p.value) es plan_run a.ticket (Prewrite a.request) h) in
              (n.0, a.request, n.1, n.2, a.start)

          each : (n : SentNote) (r : PrewriteRequest) → IsAmong l.sent n → n.request ≡ Prewrite r → r.start_version ≡ t.start → r.primary_lock ≡ p.key
          each n r h e f = prewrite_named (λ z. lone_plan p.key p.value) es plan_run n.ticket r (subst (λ q. Has es (Sent n.ticket q)) e (note_sent n h))

      written_fits : FitsCommits lines l.sent l.outcomes l.store.cells x t.start
      written_fits =
          let f : FitsAnswers (lone_plan p.key p.value) es l.store.cells t.start = subst (λ z. FitsAnswers (lone_plan p.key p.value) es z.cells t.start) (sym s.mail.stored) (law_fits (λ z. lone_plan p.key p.value) es plan_run t.start) in
          elim f [
            | inl a ↦ inl (a.0, λ n d e. a.1 d (inl (told n d e.1)))
            | inr a ↦ (
                let here = subst (λ z. IsWholeAt (lone_plan p.key p.value) z.cells t.start a.0) s.mail.stored a.1 in
                let w = law_named (λ z. lone_plan p.key p.value) es plan_run t.start a.0 refl refl here in
                let c = law_by_primary (λ z. lone_plan p.key p.value) es plan_run t.start a.0 refl here in
                let o = s.licensed.owned w.0 w.1 w.2 in
                let m = may_be (subst (λ u. has_committed u ≡ true) (alone x o.0 t o.1 at o.2) o.3) in
                inr (
                  a.0,
                  record {
                    primary = p.key;
                    named = primary a.0 w;
                    whole = let h = s.fits.rowed.fits x (Running t) at in
                        subst (λ ws. IsWholeAt (plan_of p.key ws) l.store.cells t.start a.0) (sym (h.writes ∙ ap writes_in puts)) a.1;
                    committed = (c.0, subst (λ z. HasCommit (cell_at z.cells p.key) t.start a.0 c.0) (sym s.mail.stored) c.1);
                  },
                  λ n d e. a.2 d (inl (told n d e.1)),
                  m.0,
                  m.1,
                  m.2,
                )
                )
          ]

    -- it writes nothing, so it answers no timestamp
    empty_fits : t.put ≡ None → FitsCommits lines l.sent l.outcomes l.store.cells x t.start
    empty_fits empty =
        let f : FitsAnswers (lone_plan [] []) es l.store.cells t.start = subst (λ z. FitsAnswers (lone_plan [] []) es z.cells t.start) (sym s.mail.stored) (law_fits (λ z. lone_plan [] []) es empty_run t.start) in
        elim f [
          | inl a ↦ inl (a.0, λ n d e. unanswered n d e.1)
          | inr a ↦ absurd (let w = law_named (λ z. lone_plan [] []) es empty_run t.start a.0 refl refl (subst (λ z. IsWholeAt (lone_plan [] []) z.cells t.start a.0) s.mail.stored a.1) in let o = s.licensed.owned w.0 w.1 w.2 in uncommitted (subst (λ u. has_committed u ≡ true) (alone x o.0 t o.1 at o.2) o.3))
        ]
      where
        no_put : (y : ℕ) (u : Transaction) (q : Write) → row_at l.rows y ≡ Some (Running u) → u.put ≡ Some q → ⊥
        no_put y u q e g = let z : Some q ≡ None = sym g ∙ ap (λ w. w.put) (alone x y t u at e) ∙ empty in cc

        empty_run : IsRun (λ z. lone_plan [] []) es
        empty_run = s.licensed.run [] [] (λ y u q e g h. absurd (no_put y u q e g))

        unanswered : (n d : ℕ) → outcome_of l.outcomes n ≡ Ok (Committed_at (Some d)) → ⊥
        unanswered n d e = let h = s.licensed.answered n d e in no_put h.x h.t h.put h.running h.puts

        uncommitted : has_committed t ≡ true → ⊥
        uncommitted sent = by_call t.call refl
          where
            by_call : (c : Option CommitCall) → t.call ≡ c → ⊥
            by_call None e =
                let h = s.fits.rowed.fits x (Running t) at in
                let over : is_committed t.status ≡ true = sym (ap (λ z. is_committing z || is_committed t.status) e) ∙ sent in
                let w = committed_by (outcome_of l.outcomes) x lines (h.status ∙ committed_is t.status over) in
                unanswered w.0 w.1 w.3
            by_call (Some call) e =
                let h = s.fits.rowed.fits x (Running t) at in
                let c : CommitFits lines l.rows l.outcomes x t call = subst (λ z. CallFits lines l.rows l.outcomes x t z) e h.call in
                no_put x t c.put at c.puts

    running_fits : FitsCommits lines l.sent l.outcomes l.store.cells x t.start
    running_fits = by_put t.put refl
      where
        by_put : (o : Option Write) → t.put ≡ o → FitsCommits lines l.sent l.outcomes l.store.cells x t.start
        by_put None e = empty_fits e
        by_put (Some p) e = written_fits p e

  -- of a transaction that has begun
  pub commits_fit : (x client start : ℕ) → line_at lines x ≡ Some (Begin client) → outcome_of l.outcomes x ≡ Ok (Number start) → FitsCommits lines l.sent l.outcomes l.store.cells x start
  commits_fit x client start b e = by_row (row_at l.rows x) refl (s.fits.rowed.begun x client b)
    where
      number_is : (a b : ℕ) → ◌≡◌ {A = Outcome} (Ok (Number a)) (Ok (Number b)) → a ≡ b
      number_is a b h = cc

      by_row : (o : Option Row) → row_at l.rows x ≡ o → IsBegun o → FitsCommits lines l.sent l.outcomes l.store.cells x start
      by_row None at h = absurd h
      by_row (Some Plain) at h = absurd h
      by_row (Some Beginning) at h = absurd (let w = s.fits.rowed.fits x Beginning at in let z : Unfinished ≡ Ok (Number start) = sym w.waits ∙ e in cc)
      by_row (Some (Running t)) at h =
          let w = s.fits.rowed.fits x (Running t) at in
          subst (λ n. FitsCommits lines l.sent l.outcomes l.store.cells x n) (number_is t.start start (sym w.start ∙ e)) (running_fits x t at)
      by_row (Some (Committing y)) at h = absurd h
