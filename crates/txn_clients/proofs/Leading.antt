-- What stands at a place is told of something: what that makes of the history of the whole run.
use Rattle.std.proofs.Common.{◌≡◌, ◌≢◌, ◌⊎◌, inl, inr, ℕ, suc, ◌-◌, ◌<◌, ◌≤◌, Bool, false, List, [], ◌∷◌, ◌++◌, length, set, refl, sym, ap, ◌∙◌, subst, subst₂, arith, append-nil}
use Rattle.std.proofs.lemmas.List.{length-map}
use Rattle.std.proofs.lemmas.List.Elements.{All-nil}
use Rattle.std.specs.Prelude.{Ok, Err}
use Rattle.txn_kv.specs.Timestamp.{version_of}
use Rattle.txn_kv.specs.declared.outbox.Errand.TheVariants.{Ask, Send, Sleep}
use Rattle.txn_kv.specs.declared.reply.Reply.{Reply}
use Rattle.txn_kv.specs.declared.request.commits.CommitRequest.{CommitRequest}
use Rattle.txn_kv.specs.declared.request.Request.{Request}
use Rattle.txn_kv.specs.declared.request.locks.PessimisticLockRequest.{PessimisticLockRequest}
use Rattle.txn_kv.specs.declared.request.Request.TheVariants.{Commit, PessimisticLock, UnsafeDestroyRange}
use Rattle.txn_kv.specs.declared.ticket.Ticket.{Ticket}
use Rattle.txn_history.specs.Among.{IsAmong}
use Rattle.txn_history.specs.Event.{Event, Has}
use Rattle.txn_history.specs.Event.Event.{Answered, Asked, Lost, Refused, Sent, Served, Slept, Took}
use Rattle.txn_history.specs.Later.{IsLater, numbers_rise}
use Rattle.txn_history.specs.Licence.{IsLicensed}
use Rattle.txn_history.specs.Meaning.{IsLawful, IsSent}
use Rattle.txn_history.specs.Plan.{Plan}
use Rattle.txn_history.specs.Posted.{AreNumbered, Errand, Licensed, Posted, Within, Within-after, Within-refl, Within-trans, after, posting, ticket_of}
use Rattle.txn_law.specs.Run.{IsCovered, IsPossible, IsRun}
use Rattle.txn_law.proofs.Tickets.{sent_once}
use Rattle.txn_kv.specs.declared.arrival.Arrival.TheVariants as arrivals
use Rattle.txn_commit.specs.Ways.{Ways}
use Rattle.txn_commit.specs.Sending.{MaySend}
use Rattle.txn_commit.specs.declared.secondary_job.SecondaryJob.{SecondaryJob}
use Rattle.txn_report.specs.declared.outcome.Outcome.{Outcome}
use Rattle.txn_side.specs.Doubt.{CallOf}
use Rattle.txn_side.specs.Arising.{with_postings}
use Rattle.txn_side.specs.Sight.{next_at}
use Rattle.txn_side.specs.declared.turn.Ending.{Ending}
use Rattle.txn_side.specs.declared.turn.Posting.{Posting}
use Rattle.txn_trace.specs.Answering.{GroupFits, OracleFits, ask_of}
use Rattle.txn_trace.specs.Drawing.{IsDrawn}
use Rattle.txn_trace.specs.Posting.{IsFreshFor}
use Rattle.txn_trace.specs.Seeing.{seen}
use Rattle.txn_trace.proofs.Fitting.{fits_after}
use Rattle.txn_trace.proofs.Lines.{IsLicensedInRun, fresh_after, fresh_others, posting_runs}
use Rattle.txn_trace.proofs.Timing.{answerable_after}
use Rattle.txn_trace.proofs.Transacting.{transacting}
use Rattle.txn_tso.specs.Calling.{members}
use Rattle.txn_tso.specs.Oracle.{Answer as Answered_to}
use Rattle.txn_tso.specs.declared.asker.Asker.{Asker}
use Rattle.txn_clients.specs.Arising.{Anyhow, Arisen, CanCome, HasPlan, HasStart, HavePlans, HoldsOf, IsBehind, KeepRight, Leads, RowFits, askers_of, heard_by, oracle_of, pends_answer, postings_of, ticket_or, told_of}
use Rattle.txn_clients.specs.Clients.{nexts_of, row_at, rows_of, stands_of}
use Rattle.txn_clients.specs.Failing.{outbox_of}
use Rattle.txn_clients.specs.Growing.{arisen_beside, arisen_fewer, drawn_grows, right_by, right_same, some_run}
use Rattle.txn_clients.specs.Matching.{IsLine}
use Rattle.txn_clients.specs.Rows.{Tells, stand_of}
use Rattle.txn_clients.specs.Waiting.{Book, asks_of, book_at, posted_at, voice, voice_at}
use Rattle.txn_clients.specs.declared.clients.Clients.{Clients}
use Rattle.txn_clients.specs.declared.row.Row.{Row}
use Rattle.txn_clients.specs.declared.row.Row.TheVariants as row
use Rattle.txn_clients.specs.declared.told.Told.{Told}
use Rattle.txn_clients.specs.declared.told.Told.TheVariants as tells
use Rattle.txn_clients.proofs.Sounding.{le_of, next_other, next_same}
use Rattle.txn_clients.proofs.Stands.{or_other, or_same, same_line}
use Rattle.txn_clients.proofs.Tables.{count}

-- Runs

served_sent : (plans : ℕ → Plan) (h : List Event) (t : Ticket) (r : Request) (o : Reply) → IsRun plans h → Has h (Served t r o) → Has h (Sent t r)
served_sent plans [] t r o run i = absurd i
served_sent plans (e ∷ h) t r o run (inl f) = let may : IsPossible h (Served t r o) = subst (IsPossible h) f run.0 in inr may.0
served_sent plans (e ∷ h) t r o run (inr i) = inr (served_sent plans h t r o run.2 i)

refused_sent : (plans : ℕ → Plan) (h : List Event) (t : Ticket) (r : Request) (o : Reply) → IsRun plans h → Has h (Refused t r o) → Has h (Sent t r)
refused_sent plans [] t r o run i = absurd i
refused_sent plans (e ∷ h) t r o run (inl f) = let may : IsPossible h (Refused t r o) = subst (IsPossible h) f run.0 in inr may.0
refused_sent plans (e ∷ h) t r o run (inr i) = inr (refused_sent plans h t r o run.2 i)

-- a reply that may be taken is one to a request that was sent
came_sent : (plans : ℕ → Plan) (h : List Event) (t : Ticket) (r : Request) (o : Reply) → IsRun plans h → IsPossible h (Took t r o) → Has h (Sent t r)
came_sent plans h t r o run (inl i) = served_sent plans h t r o run i
came_sent plans h t r o run (inr i) = refused_sent plans h t r o run i

pub took_sent : (plans : ℕ → Plan) (h : List Event) (t : Ticket) (r : Request) (o : Reply) → IsRun plans h → Has h (Took t r o) → Has h (Sent t r)
took_sent plans [] t r o run i = absurd i
took_sent plans (e ∷ h) t r o run (inl f) = inr (came_sent plans h t r o run.2 (subst (IsPossible h) f run.0))
took_sent plans (e ∷ h) t r o run (inr i) = inr (took_sent plans h t r o run.2 i)

sent_alone : (plans : ℕ → Plan) (h : List Event) (t : Ticket) (r : Request) → IsRun plans h → Has h (Sent t r) → IsSent t r h
sent_alone plans h t r run i = record { sent = i; alone = λ q j. sent_once plans h run t q r j i }

-- What is posted

-- a run shows of it what is posted
pub shows : (line : ℕ) (h : List Event) (rs : List Errand) → seen (after line false h rs) ≡ with_postings (postings_of line rs) (seen h)
shows line h [] = refl
shows line h (Send n to r ∷ rs) = shows line (Sent (record { line = line; beat = false; number = n }) r ∷ h) rs
shows line h (Sleep n ms ∷ rs) = shows line _ rs
shows line h (Ask n ∷ rs) = shows line _ rs

-- each that asks has asked
asked_after : (line : ℕ) (h : List Event) (rs : List Errand) (x : Asker) → IsAmong (askers_of line rs) x → Has (after line false h rs) (Asked (ask_of x))
asked_after line h [] x i = absurd i
asked_after line h (Send n to r ∷ rs) x i = asked_after line _ rs x i
asked_after line h (Sleep n ms ∷ rs) x i = asked_after line _ rs x i
asked_after line h (Ask n ∷ rs) x (inl e) = Within-after line false _ rs (Asked (ask_of x)) (inl (ap (λ (y : Asker). Asked (ask_of y)) e))
asked_after line h (Ask n ∷ rs) x (inr i) = asked_after line _ rs x i

among_either : (xs ys : List Asker) (x : Asker) → IsAmong (xs ++ ys) x → IsAmong xs x ⊎ IsAmong ys x
among_either [] ys x i = inr i
among_either (z ∷ xs) ys x (inl e) = inl (inl e)
among_either (z ∷ xs) ys x (inr i) = elim (among_either xs ys x i) [ inl j ↦ inl (inr j) | inr j ↦ inr j ]

-- What may be sent is covered, and has its licence under the plans of a run.

covered : (plan : Plan) (s : ℕ) (h : List Event) (r : Request) → MaySend plan s h r → IsCovered r
covered plan s h (UnsafeDestroyRange r) m = absurd m
covered plan s h r m = tt

pub may_transact : (plans : ℕ → Plan) (plan : Plan) (s : ℕ) (h : List Event) (r : Request) → plans s ≡ plan → MaySend plan s h r → IsLicensedInRun plans h r
may_transact plans plan s h r e m = transacting plans s h r (subst (λ x. MaySend x s h r) (sym e) m, covered plan s h r m)

-- none of what may be posted is a pessimistic lock, so none is new
pub locks_before : (may : List Event → Request → Type 0) → ((k : List Event) (r : PessimisticLockRequest) → may k (PessimisticLock r) → ⊥)
    → (line : ℕ) (beat : Bool) (h : List Event) (sends : List Errand) → Licensed may line beat h sends → (t : Ticket) (r : PessimisticLockRequest) → Has (after line beat h sends) (Sent t (PessimisticLock r)) → Has h (Sent t (PessimisticLock r))
locks_before may never line beat h [] l t r i = i
locks_before may never line beat h (Send n to q ∷ rest) l t r i = elim (locks_before may never line beat (posting line beat (Send n to q) ∷ h) rest l.1 t r i) [
  | inl e ↦ absurd (never h r (let same : q ≡ PessimisticLock r = cc in subst (may h) same l.0))
  | inr was ↦ was
]
locks_before may never line beat h (Sleep n ms ∷ rest) l t r i = elim (locks_before may never line beat (posting line beat (Sleep n ms) ∷ h) rest l.1 t r i) [
  | inl e ↦ absurd (cc)
  | inr was ↦ was
]
locks_before may never line beat h (Ask n ∷ rest) l t r i = elim (locks_before may never line beat (posting line beat (Ask n) ∷ h) rest l.1 t r i) [
  | inl e ↦ absurd (cc)
  | inr was ↦ was
]

pub may_ask : (plans : ℕ → Plan) (h : List Event) (r : Request) → r ≡ members → IsLicensedInRun plans h r
may_ask plans h r e run = subst (λ x. IsCovered x × IsLicensed plans h x) (sym e) (tt, tt)

pub none_commits : (h : List Event) (r : CommitRequest) → Commit r ≡ members → ⊥
none_commits h r e = cc

-- What is heard

pub hear_same : (told : Told) (line : ℕ) (nexts asks : List ℕ) (r : Request) (h : List Event) → (told_of told (posted_at nexts asks line) r).hear h ≡ (told_of told (outbox_of line) r).hear h
hear_same tells.Start line nexts asks r h = refl
hear_same (tells.Act act) line nexts asks r h = refl
hear_same (tells.Heard (arrivals.Reply n x)) line nexts asks r h = refl
hear_same (tells.Heard (arrivals.Lost n)) line nexts asks r h = refl
hear_same (tells.Heard (arrivals.Slept n)) line nexts asks r h = refl
hear_same (tells.Heard (arrivals.Time n x)) line nexts asks r h = refl

module _ {P : Type 0} (w : Ways P) where
  pub known_of : (told : Told) (s : Clients P) (askers : Ticket → List ℕ) (rest : List Answered_to) (line : ℕ) (nexts asks : List ℕ) (r : Request) (h : List Event)
      → CanCome told (outbox_of line) r h → Arisen w s askers (pends_answer line told rest) h → (told_of told (posted_at nexts asks line) r).known h
  known_of tells.Start s askers rest line nexts asks r h may a = tt
  known_of (tells.Act act) s askers rest line nexts asks r h may a = tt
  known_of (tells.Heard (arrivals.Reply n x)) s askers rest line nexts asks r h may a =
      let run = some_run w s askers rest h a in sent_alone _ h (ticket_of (outbox_of line) n) r run (came_sent _ h (ticket_of (outbox_of line) n) r x run may)
  known_of (tells.Heard (arrivals.Lost n)) s askers rest line nexts asks r h may a = sent_alone _ h (ticket_of (outbox_of line) n) r (some_run w s askers rest h a) may
  known_of (tells.Heard (arrivals.Slept n)) s askers rest line nexts asks r h may a = tt
  known_of (tells.Heard (arrivals.Time n x)) s askers rest line nexts asks r h may a = tt

  pub drawn_told : (told : Told) (s : Clients P) (askers : Ticket → List ℕ) (rest : List Answered_to) (line v : ℕ) (h : List Event) → Tells told v → Arisen w s askers (pends_answer line told rest) h → IsDrawn askers h line v
  drawn_told tells.Start s askers rest line v h x a = absurd x
  drawn_told (tells.Act act) s askers rest line v h x a = absurd x
  drawn_told (tells.Heard (arrivals.Reply n o)) s askers rest line v h x a = absurd x
  drawn_told (tells.Heard (arrivals.Lost n)) s askers rest line v h x a = absurd x
  drawn_told (tells.Heard (arrivals.Slept n)) s askers rest line v h x a = absurd x
  drawn_told (tells.Heard (arrivals.Time n (Ok t))) s askers rest line v h x a = subst (IsDrawn askers h line) x (a.draws.given (record { line = line; beat = false; ask = n }) t (inl refl))
  drawn_told (tells.Heard (arrivals.Time n (Err e))) s askers rest line v h x a = absurd x

  module _ (p : IsLawful w.plan) where
    -- it is put behind the history
    pub heard : (told : Told) (s : Clients P) (askers : Ticket → List ℕ) (rest : List Answered_to) (line : ℕ) (nexts asks : List ℕ) (r : Request) (h : List Event)
        → CanCome told (outbox_of line) r h → Arisen w s askers (pends_answer line told rest) h → Arisen w s askers rest ((told_of told (posted_at nexts asks line) r).hear h)
    heard tells.Start s askers rest line nexts asks r h may a = a
    heard (tells.Act act) s askers rest line nexts asks r h may a = a
    heard (tells.Heard (arrivals.Reply n x)) s askers rest line nexts asks r h may a = arisen_beside w p s askers rest h (Took (ticket_of (outbox_of line) n) r x) tt may a
    heard (tells.Heard (arrivals.Lost n)) s askers rest line nexts asks r h may a = arisen_beside w p s askers rest h (Lost (ticket_of (outbox_of line) n) r) tt may a
    heard (tells.Heard (arrivals.Slept n)) s askers rest line nexts asks r h may a = arisen_beside w p s askers rest h (Slept (ticket_of (outbox_of line) n)) tt tt a
    heard (tells.Heard (arrivals.Time n x)) s askers rest line nexts asks r h may a =
        arisen_fewer w s askers _ rest _ (arisen_beside w p s askers (pends_answer line (tells.Heard (arrivals.Time n x)) rest) h (Answered (ticket_of (outbox_of line) n) x) tt a.answerable.0 a)

-- What is handed on for a row that is set

pub record Handed {P : Type 0} (s t : Clients P) (line client at : ℕ) (news : List (Row P)) (to : Posted) : Type 0 where
  pub is : IsLine (stands_of (rows_of s)) line
  pub rows : rows_of t ≡ news
  pub numbered : AreNumbered (next_at (nexts_of s) line) (next_at (asks_of s) line) to.sends to.next to.next_ask
  pub next : next_at (nexts_of t) line ≡ to.next
  pub others : (n : ℕ) → n ≢ line → next_at (nexts_of t) n ≡ next_at (nexts_of s) n
  pub asks : asks_of t ≡ set (asks_of s) (line - 1) to.next_ask
  pub queue : (book_at t client).queue ≡ (book_at s client).queue ++ askers_of line to.sends
  pub outs : (c : ℕ) → (book_at t c).out ≡ (book_at s c).out
  pub tickets : (c : ℕ) → (book_at t c).ticket ≡ (book_at s c).ticket
  pub books : (c : ℕ) → c ≢ client → book_at t c ≡ book_at s c

-- What the row and the others have come to in the longer history, where it has posted so much

pub record Rises {P : Type 0} (w : Ways P) (olds : List (Row P)) (line at : ℕ) (new : Row P) (to : Posted) (h : List Event) : Type 0 where
  pub starts : (v : ℕ) → HasStart v new → HasStart v (row_at olds at)
  pub stays : (v : ℕ) → HasStart v (row_at olds at) → HasStart v new
  pub plans : (plans : ℕ → Plan) → HasPlan plans new → HasPlan plans (row_at olds at)
  pub behind : (job : SecondaryJob P) (o : Posted) (g : List Event) → IsBehind w job o g (row_at olds at) → IsBehind w job o g new
  pub right : (o : Outcome) (g : List Event) → HoldsOf g o (row_at olds at) → HoldsOf g o new
  pub licensed : (plans : ℕ → Plan) → HavePlans plans (set olds at new) → Licensed (IsLicensedInRun plans) line false h to.sends
  pub fits : (later : Posted) → IsLater to later → RowFits w (set olds at new) later (after line false h to.sends) new
  pub others : (i : ℕ) → i ≢ at → (o later : Posted) → IsLater o later → RowFits w olds o h (row_at olds i) → RowFits w olds later (after line false h to.sends) (row_at olds i)
  pub owns : (t : Ticket) (r : CommitRequest) → Has (after line false h to.sends) (Sent t (Commit r)) → Has h (Sent t (Commit r)) ⊎ ((i : ℕ) × HasStart r.start_version (row_at (set olds at new) i))
  pub locks : (t : Ticket) (r : PessimisticLockRequest) → Has (after line false h to.sends) (Sent t (PessimisticLock r)) → Has h (Sent t (PessimisticLock r))

module _ {P : Type 0} (w : Ways P) (olds : List (Row P)) (line at : ℕ) (new : Row P) (to : Posted) (h : List Event) (inside : at < length olds) (rises : Rises w olds line at new to h) where
  abbrev news : List (Row P)
  news = set olds at new

  pub here : row_at news at ≡ new
  here = or_same olds at new row.Plain inside

  there : (i : ℕ) → i ≢ at → row_at news i ≡ row_at olds i
  there i apart = or_other olds at i new row.Plain apart

  start_before : (i v : ℕ) → HasStart v (row_at news i) → HasStart v (row_at olds i)
  start_before i v b = elim (same_line at i) [
    | inl e ↦ subst (λ j. HasStart v (row_at olds j)) (sym e) (rises.starts v (subst (HasStart v) here (subst (λ j. HasStart v (row_at news j)) e b)))
    | inr apart ↦ subst (HasStart v) (there i apart) b
  ]

  start_now : (i v : ℕ) → HasStart v (row_at olds i) → HasStart v (row_at news i)
  start_now i v b = elim (same_line at i) [
    | inl e ↦ subst (λ j. HasStart v (row_at news j)) (sym e) (subst (HasStart v) (sym here) (rises.stays v (subst (λ j. HasStart v (row_at olds j)) e b)))
    | inr apart ↦ subst (HasStart v) (sym (there i apart)) b
  ]

  plans_before : (plans : ℕ → Plan) → HavePlans plans news → HavePlans plans olds
  plans_before plans have i = elim (same_line at i) [
    | inl e ↦ subst (λ j. HasPlan plans (row_at olds j)) (sym e) (rises.plans plans (subst (HasPlan plans) here (have at)))
    | inr apart ↦ subst (HasPlan plans) (there i apart) (have i)
  ]

  behind_now : (i : ℕ) (job : SecondaryJob P) (o : Posted) (g : List Event) → IsBehind w job o g (row_at olds i) → IsBehind w job o g (row_at news i)
  behind_now i job o g b = elim (same_line at i) [
    | inl e ↦ subst (λ j. IsBehind w job o g (row_at news j)) (sym e) (subst (IsBehind w job o g) (sym here) (rises.behind job o g (subst (λ j. IsBehind w job o g (row_at olds j)) e b)))
    | inr apart ↦ subst (IsBehind w job o g) (sym (there i apart)) b
  ]

  fits_now : (o : Posted) (g : List Event) (r : Row P) → RowFits w olds o g r → RowFits w news o g r
  fits_now o g row.Plain f = tt
  fits_now o g (row.Client c) f = tt
  fits_now o g (row.Asking c b call) f = f
  fits_now o g (row.Begun c t m) f = f
  fits_now o g (row.Calling c x b) f = tt
  fits_now o g (row.Past c) f = tt
  fits_now o g (row.Working c job) f = (f.0, behind_now f.0 job o g f.1)

  right_now : KeepRight olds news
  right_now = right_by olds news (λ i o g x. elim (same_line at i) [
    | inl e ↦ subst (λ j. HoldsOf g o (row_at news j)) (sym e) (subst (HoldsOf g o) (sym here) (rises.right o g (subst (λ j. HoldsOf g o (row_at olds j)) e x)))
    | inr apart ↦ subst (HoldsOf g o) (sym (there i apart)) x
  ])

module _ {P : Type 0} (w : Ways P) (s t : Clients P) (line client at : ℕ) (new : Row P) (to : Posted) (h : List Event) (inside : at < length (rows_of s)) (handed : Handed s t line client at (set (rows_of s) at new) to) (rises : Rises w (rows_of s) line at new to h) (voices : voice at (stand_of new) ≡ line) (posts : (to.line ≡ line) × (to.beat ≡ false)) where
  abbrev later : List Event
  later = after line false h to.sends

  ask_now : next_at (asks_of t) line ≡ to.next_ask
  ask_now = ap (λ ns. next_at ns line) handed.asks ∙ next_same (asks_of s) line to.next_ask handed.is.first
      (let last = handed.is.last in let long = count s in let short = length-map s.places.items (λ p. p.next_ask) in omega (arith, last, long, short))

  ask_other : (n : ℕ) → n ≢ line → next_at (asks_of t) n ≡ next_at (asks_of s) n
  ask_other n apart = ap (λ ns. next_at ns n) handed.asks ∙ next_other (asks_of s) line n to.next_ask handed.is.first apart

  -- the numbers of no line fall
  all_later : (n : ℕ) → IsLater (posted_at (nexts_of s) (asks_of s) n) (posted_at (nexts_of t) (asks_of t) n)
  all_later n = elim (same_line line n) [
    | inl e ↦ subst (λ m. IsLater (posted_at (nexts_of s) (asks_of s) m) (posted_at (nexts_of t) (asks_of t) m)) (sym e) (record {
      line = refl;
      beat = refl;
      next = subst (λ m. next_at (nexts_of s) line ≤ m) (sym handed.next) rise.0;
      next_ask = subst (λ m. next_at (asks_of s) line ≤ m) (sym ask_now) rise.1;
    })
    | inr apart ↦ record { line = refl; beat = refl; next = le_of _ _ (sym (handed.others n apart)); next_ask = le_of _ _ (sym (ask_other n apart)) }
  ]
    where
      rise : (next_at (nexts_of s) line ≤ to.next) × (next_at (asks_of s) line ≤ to.next_ask)
      rise = numbers_rise (next_at (nexts_of s) line) (next_at (asks_of s) line) to.sends to.next to.next_ask handed.numbered

  now_later : IsLater to (posted_at (nexts_of t) (asks_of t) line)
  now_later = record { line = sym posts.0; beat = sym posts.1; next = le_of _ _ (sym handed.next); next_ask = le_of _ _ (sym ask_now) }

  rows_now : (i : ℕ) → ((i : ℕ) → RowFits w (rows_of s) (posted_at (nexts_of s) (asks_of s) (voice_at (rows_of s) i)) h (row_at (rows_of s) i))
      → RowFits w (set (rows_of s) at new) (posted_at (nexts_of t) (asks_of t) (voice_at (set (rows_of s) at new) i)) later (row_at (set (rows_of s) at new) i)
  rows_now i fits = elim (same_line at i) [
    | inl e ↦ subst (λ j. RowFits w (set (rows_of s) at new) (posted_at (nexts_of t) (asks_of t) (voice_at (set (rows_of s) at new) j)) later (row_at (set (rows_of s) at new) j)) (sym e)
        (subst (λ r. RowFits w (set (rows_of s) at new) (posted_at (nexts_of t) (asks_of t) (voice at (stand_of r))) later r) (sym (here w (rows_of s) line at new to h inside rises))
        (subst (λ n. RowFits w (set (rows_of s) at new) (posted_at (nexts_of t) (asks_of t) n) later new) (sym voices) (rises.fits (posted_at (nexts_of t) (asks_of t) line) now_later)))
    | inr apart ↦ subst (λ r. RowFits w (set (rows_of s) at new) (posted_at (nexts_of t) (asks_of t) (voice i (stand_of r))) later r) (sym (there w (rows_of s) line at new to h inside rises i apart))
        (fits_now w (rows_of s) line at new to h inside rises _ later (row_at (rows_of s) i) (rises.others i apart _ _ (all_later (voice_at (rows_of s) i)) (fits i)))
  ]

  oracles_now : (c : ℕ) → ((c : ℕ) → OracleFits (oracle_of (book_at s c)) (ticket_or (book_at s c).ticket) h) → OracleFits (oracle_of (book_at t c)) (ticket_or (book_at t c).ticket) later
  oracles_now c fits = elim (same_line client c) [
    | inl e ↦ subst (λ d. OracleFits (oracle_of (book_at t d)) (ticket_or (book_at t d).ticket) later) (sym e) (record { queue = queued; out = out })
    | inr apart ↦ subst (λ (b : Book). OracleFits (oracle_of b) (ticket_or b.ticket) later) (sym (handed.books c apart)) (fits_after _ _ h line false to.sends (fits c))
  ]
    where
      before : OracleFits (oracle_of (book_at s client)) (ticket_or (book_at s client).ticket) later
      before = fits_after _ _ h line false to.sends (fits client)

      queued : (x : Asker) → IsAmong (book_at t client).queue x → Has later (Asked (ask_of x))
      queued x i = elim (among_either (book_at s client).queue (askers_of line to.sends) x (subst (λ xs. IsAmong xs x) handed.queue i)) [
        | inl j ↦ before.queue x j
        | inr j ↦ asked_after line h to.sends x j
      ]

      out : GroupFits (book_at t client).out (ticket_or (book_at t client).ticket) later
      out = subst (λ o. GroupFits o (ticket_or (book_at t client).ticket) later) (sym (handed.outs client)) (subst (λ u. GroupFits (book_at s client).out (ticket_or u) later) (sym (handed.tickets client)) before.out)

  fresh_now : (n : ℕ) → ((n : ℕ) → IsFreshFor n false (next_at (nexts_of s) n) (next_at (asks_of s) n) h) → IsFreshFor n false (next_at (nexts_of t) n) (next_at (asks_of t) n) later
  fresh_now n free = elim (same_line line n) [
    | inl e ↦ subst (λ m. IsFreshFor m false (next_at (nexts_of t) m) (next_at (asks_of t) m) later) (sym e)
        (subst₂ (λ x y. IsFreshFor line false x y later) (sym handed.next) (sym ask_now) (fresh_after line false h to.sends _ _ to.next to.next_ask handed.numbered (free line)))
    | inr apart ↦ subst₂ (λ x y. IsFreshFor n false x y later) (sym (handed.others n apart)) (sym (ask_other n apart)) (fresh_others line n false false h to.sends _ _ (λ e. apart (sym e.0)) (free n))
  ]

  arisen_now : (askers : Ticket → List ℕ) (rest : List Answered_to) → Arisen w s askers rest h → Arisen w t askers rest later
  arisen_now askers rest a = record {
    run = λ plans have. let having = subst (λ rs. HavePlans plans rs) handed.rows have in
        posting_runs plans line false h to.sends _ _ to.next to.next_ask (a.run plans (plans_before w (rows_of s) line at new to h inside rises plans having)) (rises.licensed plans having) handed.numbered (a.fresh line);
    rows = λ i. subst (λ rs. RowFits w rs (posted_at (nexts_of t) (asks_of t) (voice_at rs i)) later (row_at rs i)) (sym handed.rows) (rows_now i a.rows);
    oracles = λ c. oracles_now c a.oracles;
    fresh = λ n. fresh_now n a.fresh;
    draws = record {
      starts = λ i v b. drawn_grows askers h later (suc i) v within (a.draws.starts i v (began i v b));
      groups = λ c u group e f. a.draws.groups c u group (sym (handed.tickets c) ∙ e) (sym (handed.outs c) ∙ f);
      given = λ x time i. drawn_grows askers h later x.line (version_of time) within (a.draws.given x time i);
    };
    answerable = answerable_after rest h line false to.sends a.answerable;
    owned = λ u r i. elim (rises.owns u r i) [
      | inl j ↦ (let o = a.owned u r j in (o.0, now o.0 r.start_version (start_now w (rows_of s) line at new to h inside rises o.0 r.start_version o.1)))
      | inr o ↦ (o.0, now o.0 r.start_version o.1)
    ];
    optimistic = λ u r i. a.optimistic u r (rises.locks u r i);
    apart = λ i j v b d. a.apart i j v (began i v b) (began j v d);
  }
    where
      within : Within h later
      within = Within-after line false h to.sends

      now : (i v : ℕ) → HasStart v (row_at (set (rows_of s) at new) i) → HasStart v (row_at (rows_of t) i)
      now i v b = subst (λ rs. HasStart v (row_at rs i)) (sym handed.rows) b

      began : (i v : ℕ) → HasStart v (row_at (rows_of t) i) → HasStart v (row_at (rows_of s) i)
      began i v b = start_before w (rows_of s) line at new to h inside rises i v (subst (λ rs. HasStart v (row_at rs i)) handed.rows b)

  pub leads_now : (Then : List Event → Type 0) (askers : Ticket → List ℕ) (rest : List Answered_to) (first : List Event) (ps qs : List Posting) (es fs : List Ending) → qs ≡ ps ++ postings_of line to.sends → fs ≡ es
      → Within first h → Arisen w s askers rest h → (Arisen w t askers rest later → Then later) → Leads w askers rest ps qs es fs (heard_by s) s t (seen h) first Then
  leads_now Then askers rest first ps qs es fs posted ended within a then = record {
    later = later;
    more = postings_of line to.sends;
    posted = posted;
    shows = shows line h to.sends;
    within = Within-trans first h later within (Within-after line false h to.sends);
    arisen = arisen_now askers rest a;
    kept = subst (λ rs. KeepRight (rows_of s) rs) (sym handed.rows) (right_now w (rows_of s) line at new to h inside rises);
    ends = record { more = []; ended = ended ∙ sym (append-nil es); each = All-nil _; says = All-nil _ };
    then = then (arisen_now askers rest a);
  }

-- Parts of a step

module _ {P : Type 0} (w : Ways P) (askers : Ticket → List ℕ) (rest : List Answered_to) (ps qs : List Posting) (es fs : List Ending) (where_it_stands : ℕ → CallOf) (s t : Clients P) where
  pub leads_weaker : (shown h : List Event) (Then More : List Event → Type 0) → ((g : List Event) → Then g → More g) → Leads w askers rest ps qs es fs where_it_stands s t shown h Then → Leads w askers rest ps qs es fs where_it_stands s t shown h More
  leads_weaker shown h Then More weaker l = record {
    later = l.later;
    more = l.more;
    posted = l.posted;
    shows = l.shows;
    within = l.within;
    arisen = l.arisen;
    kept = l.kept;
    ends = l.ends;
    then = weaker l.later l.then;
  }

-- nothing is done
pub leads_nothing : {P : Type 0} (w : Ways P) (askers : Ticket → List ℕ) (rest : List Answered_to) (ps : List Posting) (es : List Ending) (where_it_stands : ℕ → CallOf) (s : Clients P) (h : List Event) → Arisen w s askers rest h
    → Leads w askers rest ps ps es es where_it_stands s s (seen h) h Anyhow
leads_nothing w askers rest ps es where_it_stands s h a = record {
  later = h;
  more = [];
  posted = sym (append-nil ps);
  shows = refl;
  within = Within-refl h;
  arisen = a;
  kept = right_same (rows_of s);
  ends = record { more = []; ended = sym (append-nil es); each = All-nil _; says = All-nil _ };
  then = tt;
}
