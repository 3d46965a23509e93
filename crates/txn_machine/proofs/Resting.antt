-- The calls of the clients rest on what has happened, and on what their step posts.
use Rattle.std.proofs.Common.{◌≡◌, ℕ, zero, suc, ◌<◌, ◌⊎◌, inl, inr, IfOk, List, [], ◌∷◌, Option, Some, None, Result, Ok, Err, length, get_or, refl, sym, ap, ◌∙◌, subst, arith}
use Rattle.std.specs.List.{All}
use Rattle.txn_lines.specs.declared.line.Line.{Line}
use Rattle.txn_lines.specs.Deeds.{deed_of}
use Rattle.txn_kv.specs.declared.errors.Error.{Error}
use Rattle.txn_kv.specs.declared.memory.NoMemory.{NoMemory}
use Rattle.txn_kv.specs.declared.reply.Reply.{Reply}
use Rattle.txn_kv.specs.declared.request.Request.{Request}
use Rattle.txn_kv.specs.declared.ticket.Ticket.{Ticket}
use Rattle.txn_history.specs.Among.{IsAmong}
use Rattle.txn_history.specs.Event.{Event}
use Rattle.txn_history.specs.Event.Event.{Took}
use Rattle.txn_lines.specs.declared.act.Act.{Act}
use Rattle.txn_lines.specs.declared.deed.Deed.{Deed}
use Rattle.txn_lines.specs.declared.deed.Deed.TheVariants as deeds
use Rattle.txn_post.specs.Mail.{Mail}
use Rattle.txn_report.specs.declared.outcome.Outcome.{Outcome}
use Rattle.txn_report.specs.declared.outcome.Outcome.TheVariants as outcomes
use Rattle.txn_report.specs.declared.report.SentNote.{SentNote}
use Rattle.txn_side.specs.Account.{Account, AreKept, refusal}
use Rattle.txn_side.specs.Sight.{Sight}
use Rattle.txn_side.specs.Trace.{ActsOn, EndsFor, FailsIn, HasCome, HearsOn, HowCallsFail, IsSend, RestsOn, StillRests, Trace, with_posted}
use Rattle.txn_side.specs.declared.turn.Ending.{Ending}
use Rattle.txn_side.specs.declared.turn.Posting.{Posting}
use Rattle.txn_side.specs.declared.turn.Posting.TheVariants.{Send, Sleep}
use Rattle.txn_side.specs.declared.turn.Turn.{Turn}
use Rattle.txn_machine.specs.Accounts.{Ask, ask_for}
use Rattle.txn_machine.specs.Failing.{CanAsk, CanRest, Rested, RunsOn, WasPosted}
use Rattle.txn_machine.specs.Lists.{Lists, all_ended, all_posted, ended_at, newest, opened, posted_at, with_mail}
use Rattle.txn_machine.specs.Running.{closed, with_own}
use Rattle.txn_machine.specs.Script.{outcome_of}
use Rattle.txn_machine.specs.Steps.{ended_in, posted_in}
use Rattle.txn_machine.specs.Told.{CanTell, OwnEnds, is_answer}
use Rattle.txn_machine.specs.declared.done.Done.{Done as Course}
use Rattle.txn_machine.proofs.Calms.{outcome_opened}
use Rattle.txn_machine.proofs.Credits.{all_count}
use Rattle.txn_machine.proofs.Folds.{ended_mail}
use Rattle.txn_machine.proofs.Timing.{among_last, posted_among, told_either}

-- What a line makes of it.

module _ (fails : HowCallsFail) (was is : Trace → Type 0) (l : Lists) (accounts : ℕ → Account) where
  -- a line asks something of a transaction
  pub used_on : (x : ℕ) (act : Act) (n : ℕ) (turn : Option Turn) (done : Course) → n ≡ newest l → done.turn.posted.items ≡ posted_in turn → done.turn.ended.items ≡ ended_in turn
      → ActsOn fails was is act x n (accounts x) turn → RunsOn fails was is (deeds.Use x act) l accounts done
  used_on x act n turn done count posted ended h before t rest w =
      subst (λ (ps : List Posting). RestsOn fails was is t ps done.turn.ended.items) (sym posted)
      (subst (λ (es : List Ending). RestsOn fails was is t (posted_in turn) es) (sym ended) (by turn (subst (λ k. ActsOn fails was is act x k (accounts x) turn) count h)))
    where
      by : (o : Option Turn) → ActsOn fails was is act x (newest l) (accounts x) o → RestsOn fails was is t (posted_in o) (ended_in o)
      by None a = a t rest.posted rest.call rest.ask.0 rest.ask.1
      by (Some u) a = a t rest.posted rest.call rest.ask.0 rest.ask.1

  -- the clients hear of what came for a ticket
  pub heard_on : (deed : Deed) (u : Ticket) (event : Request → Event) (r : Result Course NoMemory) → ((before t : Trace) → CanRest deed l accounts before t → HasCome before t l.sight u event)
      → IfOk r (λ done. HearsOn fails was is l.sight u event done.turn) → IfOk r (λ done. RunsOn fails was is deed l accounts done)
  heard_on deed u event (Ok done) come h = λ before t rest w now. h before t rest.longer rest.posted (come before t rest) w
  heard_on deed u event (Err e) come h = tt

-- the reply that the clients hear is the one that the store gave
pub handled_heard : {S : Type 0} (sight : S → Sight) (fails : HowCallsFail) (rests : S → Trace → Type 0) (from mid to : S) (u : Ticket) (reply given : Reply) (r : Result Course NoMemory) → mid ≡ from → reply ≡ given
    → IfOk r (λ done. HearsOn fails (rests mid) (rests to) (sight mid) u (λ q. Took u q reply) done.turn) → IfOk r (λ done. HearsOn fails (rests from) (rests to) (sight from) u (λ q. Took u q given) done.turn)
handled_heard {S = S} sight fails rests from mid to u reply given r same is h =
    subst (λ (o : Reply). IfOk r (λ done. HearsOn fails (rests from) (rests to) (sight from) u (λ q. Took u q o) done.turn)) is
    (subst (λ (s : S). IfOk r (λ done. HearsOn fails (rests s) (rests to) (sight s) u (λ q. Took u q reply) done.turn)) same h)

-- And by the lists that the step leaves.

-- what is posted in the step of line `at` is noted there
posted_note : (at : ℕ) (ps : List Posting) (mail : Mail) (u : Ticket) (r : Request) (k : ℕ) (x : Posting) → k < length ps → get_or ps k x ≡ x → IsSend u r x → (s : SentNote) × IsAmong (all_posted at ps mail).sent s × (s.ticket ≡ u) × (s.request ≡ r) × (s.at ≡ at)
posted_note at [] mail u r k x h e send = absurd (omega arith)
posted_note at (p ∷ ps) mail u r zero x h e send = later (here p (subst (λ q. IsSend u r q) (sym e) send))
  where
    Noted : List SentNote → Type 0
    Noted ss = (s : SentNote) × IsAmong ss s × (s.ticket ≡ u) × (s.request ≡ r) × (s.at ≡ at)

    here : (q : Posting) → IsSend u r q → Noted (posted_at at q mail).sent
    here (Send t to q askers) is = (record { ticket = t; at = at; to = to; request = q; askers = askers }, among_last mail.sent (record { ticket = t; at = at; to = to; request = q; askers = askers }), is.0, is.1, refl)
    here (Sleep t) is = absurd is

    later : Noted (posted_at at p mail).sent → Noted (all_posted at ps (posted_at at p mail)).sent
    later w = (w.0, posted_among at ps (posted_at at p mail) w.0 w.1, w.2, w.3, w.4)
posted_note at (p ∷ ps) mail u r (suc k) x h e send = posted_note at ps (posted_at at p mail) u r k x (omega arith) e send

-- an error that stands at a line was told in the step, or stood there before
ended_error : (Fails : ℕ → Error → Type 0) (es : List Ending) (l : Lists) (n : ℕ) (e : Error) → All (λ (x : Ending). (e : Error) → x.outcome ≡ outcomes.Err e → Fails x.line e) es → outcome_of (all_ended es l).outcomes n ≡ outcomes.Err e → (outcome_of l.outcomes n ≡ outcomes.Err e) ⊎ Fails n e
ended_error Fails [] l n e all is = inl is
ended_error Fails (x ∷ es) l n e all is = elim (ended_error Fails es (ended_at x.line x.outcome l) n e (λ k d low. all (suc k) d (omega arith)) is) [
  | inl f ↦ elim (told_either l.outcomes x.line n x.outcome) [
    | inl was ↦ inl (sym was ∙ f)
    | inr told ↦ inr (subst (λ k. Fails k e) told.0 (all 0 x (omega arith) e (sym told.1 ∙ f)))
  ]
  | inr now ↦ inr now
]

own_error : (own : Option Outcome) (l : Lists) (n : ℕ) (e : Error) → OwnEnds own → outcome_of (with_own own l).outcomes n ≡ outcomes.Err e → outcome_of l.outcomes n ≡ outcomes.Err e
own_error None l n e ends is = is
own_error (Some x) l n e ends is = elim (told_either l.outcomes (newest l) n x) [
  | inl was ↦ sym was ∙ is
  | inr told ↦ absurd (let a = sym (ap is_answer (sym told.1 ∙ is)) ∙ ends in cc)
]

module _ (fails : HowCallsFail) (older l : Lists) (done : Course) (can : CanTell (opened older) done l) where
  abbrev own : Lists
  own = with_own done.outcome l

  abbrev mid : Lists
  mid = with_mail (all_posted (newest own) done.turn.posted.items own.mail) own

  sent_now : WasPosted done.turn.posted.items (closed done l)
  sent_now u r p =
      let w = posted_note (newest own) done.turn.posted.items own.mail u r p.0 p.1 p.2 p.3 p.4 in
      (w.0, subst (λ (x : Mail). IsAmong x.sent w.0) (sym (ended_mail done.turn.ended.items mid)) w.1, w.2, w.3, w.4 ∙ sym (all_count done.turn.ended.items mid))

  cause_now : (t : Trace) → All (EndsFor fails (with_posted done.turn.posted.items t)) done.turn.ended.items → (n : ℕ) (e : Error) → outcome_of (closed done l).outcomes n ≡ outcomes.Err e
      → (outcome_of older.outcomes n ≡ outcomes.Err e) ⊎ (FailsIn fails (with_posted done.turn.posted.items t) n e ⊎ IsAmong t.refused (record { line = n; error = e }))
  cause_now t ends n e is = elim (ended_error (λ n e. FailsIn fails (with_posted done.turn.posted.items t) n e ⊎ IsAmong t.refused (record { line = n; error = e })) done.turn.ended.items mid n e ends is) [
    | inl was ↦ inl (sym (outcome_opened older.outcomes n) ∙ ap (λ os. outcome_of os n) (sym can.outcomes) ∙ own_error done.outcome l n e can.own was)
    | inr now ↦ inr now
  ]

  rested_closed : (was is : Trace → Type 0) (deed : Deed) (accounts : ℕ → Account) → RunsOn fails was is deed (opened older) accounts done → Rested fails was is deed older accounts (closed done l)
  rested_closed was is deed accounts runs before t rest w now =
      let r = runs before t rest w now in
      record { posted = done.turn.posted.items; sent = sent_now; rest = r.0; causes = cause_now t r.1 }

can_ask_kept : (ask : Option Ask) (a b : ℕ → Account) (n : ℕ) (t : Trace) → AreKept a b → CanAsk ask a n t → CanAsk ask b n t
can_ask_kept None a b n t kept h = h
can_ask_kept (Some ask) a b n t kept h = (λ e is. h.0 e (ap (λ z. refusal ask.act z) (sym (kept ask.transaction)) ∙ is), h.1)

-- the parts of a step together
pub rested_step : {S : Type 0} (fails : HowCallsFail) (rests : S → Trace → Type 0) (account : S → ℕ → Account) (line : Line) (deed : Deed) (older start l new : Lists) (done : Course) (from mid last to : S) → deed ≡ deed_of line → start ≡ opened older → new ≡ closed done l → CanTell start done l
    → AreKept (account from) (account mid) → StillRests (rests from) (rests mid) → RunsOn fails (rests mid) (rests last) deed start (account mid) done → to ≡ last → Rested fails (rests from) (rests to) (deed_of line) older (account from) new
rested_step fails rests account line deed older start l new done from mid last to is a b can kept still runs same =
    subst (λ d. Rested fails (rests from) (rests to) d older (account from) new) is (subst (λ x. Rested fails (rests from) (rests to) deed older (account from) x) (sym b) (subst (λ s. Rested fails (rests from) (rests s) deed older (account from) (closed done l)) (sym same)
    (rested_closed fails older l done (subst (λ x. CanTell x done l) a can) (rests from) (rests last) deed (account from)
    (λ before t rest w now. subst (λ x. RunsOn fails (rests mid) (rests last) deed x (account mid) done) a runs before t (record { longer = rest.longer; posted = rest.posted; call = rest.call; begins = rest.begins; ask = can_ask_kept (ask_for deed) (account from) (account mid) (newest (opened older)) t kept rest.ask; hear = rest.hear }) (still before w) (still t now)))))
