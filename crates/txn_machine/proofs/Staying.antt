-- A step of the machine leaves out what its clients wait for.
use Rattle.std.proofs.Common.{◌≡◌, ℕ, ◌<◌, inl, inr, Bool, true, false, if◌then◌else◌, List, [], Option, Some, None, Result, Ok, Err, IfOk, OnOk, is_some, length, get_or, refl, sym, ap, ◌∙◌, subst, arith}
use Rattle.txn_kv.specs.declared.memory.NoMemory.{NoMemory}
use Rattle.txn_kv.specs.declared.reply.Reply.{Reply}
use Rattle.txn_kv.specs.declared.ticket.Ticket.{Ticket}
use Rattle.txn_post.proofs.Mails.{changed_is_mail, waked_is_mail}
use Rattle.txn_post.specs.Mail.{IsMail, Mail, changing, found_awaited, found_lasting, keeping, letter_at, losing, taking, ticket_at, waking}
use Rattle.txn_post.specs.declared.letter.Letter.{Letter}
use Rattle.txn_post.specs.declared.post.Place.TheVariants.{Sent, Slept}
use Rattle.txn_report.specs.declared.outcome.Outcome.{Outcome}
use Rattle.txn_side.specs.Sight.{Acts, ArePosted, Asks, Goes, IsOut, Nexts, Sight, is_live}
use Rattle.txn_side.specs.Waiting.{Awaited, HearsEnd, HearsReply, NoneHeard, WaitsOn}
use Rattle.txn_side.specs.Waiting as waiting
use Rattle.txn_side.specs.Waiting.Awaited.{EndOf, ReplyTo}
use Rattle.txn_lines.specs.declared.act.Act.{Act}
use Rattle.txn_side.specs.declared.turn.Posting.{Posting}
use Rattle.txn_side.specs.declared.turn.Turn.{Turn}
use Rattle.txn_machine.specs.Dues.{AreOut, IsAskedIn, IsAwaitedIn, StayOut}
use Rattle.txn_machine.specs.Lists.{Lists, all_posted, handled, newest, nothing, opened, with_mail}
use Rattle.txn_machine.specs.Running.{AreNumbered, CanClose, IsEven, IsOrdered, KeepOut, closed, with_own}
use Rattle.txn_machine.specs.Steps.{found_asleep, found_out, posted_in}
use Rattle.txn_machine.specs.declared.done.Done.{Done as Course}
use Rattle.txn_machine.proofs.Folds.{ended_mail, ended_sight}
use Rattle.txn_machine.proofs.Outs.{IsPostedIn, StaysBut, as_awaited, as_group, end_stays, posted_out, reply_stays, stays_changed, stays_kept, stays_opened, stays_same, stays_woken}

pub own_mail : (own : Option Outcome) (l : Lists) → (with_own own l).mail ≡ l.mail
own_mail None l = refl
own_mail (Some o) l = refl

own_sight : (own : Option Outcome) (l : Lists) → (with_own own l).sight ≡ l.sight
own_sight None l = refl
own_sight (Some o) l = refl

kept : (Hears : ℕ → Awaited → Type 0) (old new : Mail) → StaysBut Hears old new → (line : ℕ) (a : Awaited) → (Hears line a → ⊥) → IsAwaitedIn old line a → IsAwaitedIn new line a
kept Hears old new stays line (ReplyTo number) far out = stays.replies (record { line = line; beat = false; number = number }) refl far out
kept Hears old new stays line (EndOf number) far out = stays.ends (record { line = line; beat = false; number = number }) refl far out

module _ (was is : ℕ → Awaited → Type 0) (old l : Lists) (done : Course) where
  abbrev mid : Lists
  mid = with_own done.outcome l

  abbrev sent : Lists
  sent = with_mail (all_posted (newest mid) done.turn.posted.items mid.mail) mid

  closed_mail : (closed done l).mail ≡ all_posted (newest mid) done.turn.posted.items l.mail
  closed_mail = ended_mail done.turn.ended.items sent ∙ ap (λ mail. all_posted (newest mid) done.turn.posted.items mail) (own_mail done.outcome l)

  closed_sight : (closed done l).sight ≡ l.sight
  closed_sight = ended_sight done.turn.ended.items sent ∙ own_sight done.outcome l

  -- the clients are told of something, and post something
  pub still_out : (Hears : ℕ → Awaited → Type 0) (from to : Nexts) → WaitsOn Hears done.turn.posted.items was is old.sight l.sight → StaysBut Hears old.mail l.mail → IsMail l.mail
      → ArePosted from done.turn.posted.items to → AreNumbered l.mail.tickets from → KeepOut was is old done l
  still_out Hears from to w stays m posted numbered = record {
    stays = λ o. record {
      lines = λ line a waits. subst (λ mail. IsAwaitedIn mail line a) (sym closed_mail) (elim (w.lines line a waits) [
        | inl h ↦ behind line a (kept Hears old.mail l.mail stays line a h.1 (o.lines line a h.0))
        | inr p ↦ as_awaited all p.1 line a (out p.0 p.1 p.2 p.3) p.4.0 p.4.1 p.4.2
      ]);
      groups = λ g h. subst (λ mail. IsAskedIn mail g) (sym closed_mail) (elim (w.groups g (subst (λ s. IsOut s g) closed_sight h)) [
        | inl i ↦ let was = o.groups g i.0 in (was.0, reply_stays (newest mid) done.turn.posted.items l.mail from to posted numbered m g.ticket (stays.replies g.ticket was.0 i.1 was.1))
        | inr p ↦ as_group all g p.1 (out p.0 p.1 p.2 p.3) p.4
      ]);
    };
  }
    where
      all : Mail
      all = all_posted (newest mid) done.turn.posted.items l.mail

      behind : (line : ℕ) (a : Awaited) → IsAwaitedIn l.mail line a → IsAwaitedIn all line a
      behind line (ReplyTo number) h = reply_stays (newest mid) done.turn.posted.items l.mail from to posted numbered m (record { line = line; beat = false; number = number }) h
      behind line (EndOf number) h = end_stays (newest mid) done.turn.posted.items l.mail from to posted numbered m (record { line = line; beat = false; number = number }) h

      out : (k : ℕ) (x : Posting) → k < length done.turn.posted.items → get_or done.turn.posted.items k x ≡ x → IsPostedIn all x
      out = posted_out (newest mid) done.turn.posted.items l.mail from to posted numbered m

  -- nothing is posted
  pub quiet_out : (Hears : ℕ → Awaited → Type 0) → WaitsOn Hears [] was is old.sight l.sight → StaysBut Hears old.mail l.mail → done.turn.posted.items ≡ [] → KeepOut was is old done l
  quiet_out Hears w stays none = record {
    stays = λ o. record {
      lines = λ line a waits. subst (λ mail. IsAwaitedIn mail line a) (sym same) (elim (w.lines line a waits) [
        | inl h ↦ kept Hears old.mail l.mail stays line a h.1 (o.lines line a h.0)
        | inr p ↦ absurd (let low = p.2 in omega arith)
      ]);
      groups = λ g h. subst (λ mail. IsAskedIn mail g) (sym same) (elim (w.groups g (subst (λ s. IsOut s g) closed_sight h)) [
        | inl i ↦ let was = o.groups g i.0 in (was.0, stays.replies g.ticket was.0 i.1 was.1)
        | inr p ↦ absurd (let low = p.2 in omega arith)
      ]);
    };
  }
    where
      same : (closed done l).mail ≡ l.mail
      same = closed_mail ∙ ap (λ ps. all_posted (newest mid) ps l.mail) none

  -- the clients do nothing
  calm_out : ((line : ℕ) (a : Awaited) → is line a → was line a) → l.sight ≡ old.sight → StaysBut NoneHeard old.mail l.mail → done.turn.posted.items ≡ [] → KeepOut was is old done l
  calm_out same sight stays none = quiet_out NoneHeard (record { lines = λ line a h. inl (same line a h, λ x. x); groups = λ g out. inl (subst (λ s. IsOut s g) sight out, λ x. x) }) stays none

  -- the clients post what a turn has
  turn_out : (Hears : ℕ → Awaited → Type 0) (posted : List Posting) (from to : Nexts) → done.turn.posted.items ≡ posted → WaitsOn Hears posted was is old.sight l.sight → StaysBut Hears old.mail l.mail → IsMail l.mail
      → ArePosted from posted to → AreNumbered l.mail.tickets from → KeepOut was is old done l
  turn_out Hears posted from to same w stays m numbers numbered =
      still_out Hears from to (subst (λ ps. WaitsOn Hears ps was is old.sight l.sight) (sym same) w) stays m (subst (λ ps. ArePosted from ps to) (sym same) numbers) numbered

  ordered_mail : l.mail ≡ old.mail → IsOrdered old → IsMail l.mail
  ordered_mail same ordered = subst (λ mail. IsMail mail) (sym same) ordered.sound.mail

  ordered_numbers : l.mail.tickets ≡ old.mail.tickets → IsEven old → AreNumbered l.mail.tickets old.sight.nexts
  ordered_numbers same even = subst (λ ts. AreNumbered ts old.sight.nexts) (sym same) even.numbered

  pub asks_out : (b : Bool) (k : ℕ) (turn : Option Turn) → Asks b k old.sight l.sight turn → WaitsOn NoneHeard (waiting.posted_in turn) was is old.sight l.sight → done.turn.posted.items ≡ posted_in turn → l.mail ≡ old.mail → IsOrdered old → KeepOut was is old done l
  asks_out b k None a w posted same ordered = quiet_out NoneHeard w (stays_same NoneHeard old.mail l.mail same) posted
  asks_out b k (Some turn) a w posted same ordered =
      turn_out NoneHeard turn.posted.items old.sight.nexts l.sight.nexts posted w (stays_same NoneHeard old.mail l.mail same) (ordered_mail same ordered) a.3.numbers (ordered_numbers (ap (λ (x : Mail). x.tickets) same) ordered.even)

  pub acts_out : (act : Act) (x : ℕ) (turn : Option Turn) → Acts act x old.sight l.sight turn → WaitsOn NoneHeard (waiting.posted_in turn) was is old.sight l.sight → done.turn.posted.items ≡ posted_in turn → l.mail ≡ old.mail → IsOrdered old → KeepOut was is old done l
  acts_out act x None a w posted same ordered = quiet_out NoneHeard w (stays_same NoneHeard old.mail l.mail same) posted
  acts_out act x (Some turn) a w posted same ordered =
      turn_out NoneHeard turn.posted.items old.sight.nexts l.sight.nexts posted w (stays_same NoneHeard old.mail l.mail same) (ordered_mail same ordered) a.3.numbers (ordered_numbers (ap (λ (x : Mail). x.tickets) same) ordered.even)

  -- the clients are told that a reply will not come
  pub lost_out : (t : Ticket) (k : ℕ) (turn : Turn) → done.turn ≡ turn → Goes turn.posted.items turn.ended.items old.sight l.sight → WaitsOn (HearsReply t) turn.posted.items was is old.sight l.sight → ticket_at old.mail (Sent k) ≡ Some t
      → l.mail ≡ changing losing k old.mail → IsOrdered old → KeepOut was is old done l
  lost_out t k turn is_turn goes w named same ordered =
      turn_out (HearsReply t) turn.posted.items old.sight.nexts l.sight.nexts (ap (λ (x : Turn). x.posted.items) is_turn) w
      (subst (λ mail. StaysBut (HearsReply t) old.mail mail) (sym same) (stays_changed old.mail ordered.sound.mail t k losing (ordered.sound.mail.found t (Sent k) named)))
      (subst (λ mail. IsMail mail) (sym same) (changed_is_mail losing k old.mail ordered.sound.mail))
      goes.numbers (ordered_numbers (ap (λ (x : Mail). x.tickets) same) ordered.even)

  -- a sleep ends
  pub slept_out : (t : Ticket) (k : ℕ) (turn : Turn) → done.turn ≡ turn → Goes turn.posted.items turn.ended.items old.sight l.sight → WaitsOn (HearsEnd t) turn.posted.items was is old.sight l.sight → ticket_at old.mail (Slept k) ≡ Some t
      → l.mail ≡ waking k old.mail → IsOrdered old → KeepOut was is old done l
  slept_out t k turn is_turn goes w named same ordered =
      turn_out (HearsEnd t) turn.posted.items old.sight.nexts l.sight.nexts (ap (λ (x : Turn). x.posted.items) is_turn) w
      (subst (λ mail. StaysBut (HearsEnd t) old.mail mail) (sym same) (stays_woken old.mail ordered.sound.mail t k (ordered.sound.mail.found t (Slept k) named)))
      (subst (λ mail. IsMail mail) (sym same) (waked_is_mail k old.mail ordered.sound.mail))
      goes.numbers (ordered_numbers (ap (λ (x : Mail). x.tickets) same) ordered.even)

-- neither the clients nor what is out change
pub rest_out : (waits : ℕ → Awaited → Type 0) (old l : Lists) (done : Course) → l.mail ≡ old.mail → l.sight ≡ old.sight → done.turn.posted.items ≡ [] → KeepOut waits waits old done l
rest_out waits old l done same sight none = calm_out waits waits old l done (λ line a w. w) sight (stays_same NoneHeard old.mail l.mail same) none

-- the store handles a request, and its reply is kept
pub served_out : (was is : ℕ → Awaited → Type 0) (old over l : Lists) (done : Course) (t : Ticket) (k : ℕ) (reply : Reply) → over ≡ handled t k old → is ≡ was → l.sight ≡ over.sight → l.mail ≡ changing (keeping reply) k over.mail → k < length old.mail.sent → IsMail old.mail
    → done.turn.posted.items ≡ [] → KeepOut was is old done l
served_out was is old over l done t k reply here waits sight same low m none =
    let mail : l.mail ≡ changing (keeping reply) k old.mail = same ∙ ap (λ (x : Lists). changing (keeping reply) k x.mail) here in
    calm_out was is old l done (λ line a w. subst (λ (f : ℕ → Awaited → Type 0). f line a) waits w) (sight ∙ ap (λ (x : Lists). x.sight) here)
    (subst (λ x. StaysBut NoneHeard old.mail x) (sym mail) (stays_kept NoneHeard old.mail k (keeping reply) (let a = m.letters in omega arith) refl)) none

-- there is no reply to take
pub untaken_out : (waits : ℕ → Awaited → Type 0) (old l : Lists) (done : Course) (k : ℕ) → l.sight ≡ old.sight → l.mail ≡ changing taking k old.mail → (letter_at old.mail k).kept ≡ None → k < length old.mail.sent → IsMail old.mail → done.turn.posted.items ≡ [] → KeepOut waits waits old done l
untaken_out waits old l done k sight same empty low m none =
    calm_out waits waits old l done (λ line a w. w) sight
    (subst (λ x. StaysBut NoneHeard old.mail x) (sym same) (stays_kept NoneHeard old.mail k taking (let a = m.letters in omega arith)
    (ap (λ b. (if b then record (letter_at old.mail k) { awaited = false; kept = None } else letter_at old.mail k).awaited) (ap is_some empty)))) none

-- the clients hear a reply
pub heard_out : (was now is : ℕ → Awaited → Type 0) (old over l : Lists) (t : Ticket) (k : ℕ) (change : Letter → Letter) (r : Result Course NoMemory) → now ≡ was → IfOk r (λ (d : Course). WaitsOn (HearsReply t) d.turn.posted.items now is over.sight l.sight) → IfOk r (λ (d : Course). CanClose d l)
    → OnOk r (l.mail ≡ over.mail) → over.sight ≡ old.sight → ticket_at old.mail (Sent k) ≡ Some t → over.mail ≡ changing change k old.mail → IsMail old.mail → IfOk r (λ (d : Course). KeepOut was is old d l)
heard_out was now is old over l t k change (Ok d) waits w can stays sight named here m =
    let same : l.mail ≡ changing change k old.mail = stays ∙ here in
    still_out was is old l d (HearsReply t) can.post.before l.sight.nexts (subst (λ (f : ℕ → Awaited → Type 0). WaitsOn (HearsReply t) d.turn.posted.items f is old.sight l.sight) waits (subst (λ s. WaitsOn (HearsReply t) d.turn.posted.items now is s l.sight) sight w))
    (subst (λ mail. StaysBut (HearsReply t) old.mail mail) (sym same) (stays_changed old.mail m t k change (m.found t (Sent k) named)))
    (subst (λ mail. IsMail mail) (sym same) (changed_is_mail change k old.mail m))
    can.post.numbers can.post.numbered
heard_out was now is old over l t k change (Err e) waits w can stays sight named here m = tt

pub came_waits : (Hears : ℕ → Awaited → Type 0) (was is : ℕ → Awaited → Type 0) (old new : Sight) (turn came : Turn) → came ≡ turn → WaitsOn Hears turn.posted.items was is old new → WaitsOn Hears came.posted.items was is old new
came_waits Hears was is old new turn came e w = subst (λ (x : Turn). WaitsOn Hears x.posted.items was is old new) (sym e) w

-- Where a ticket is found.

pub live_out : (l : Lists) (t : Ticket) (k : ℕ) → found_out l t ≡ Some k → is_live l.sight t.line ≡ true
live_out l t k e = by (is_live l.sight t.line) refl e
  where
    by : (b : Bool) → is_live l.sight t.line ≡ b → (if b then found_awaited l.mail t else None) ≡ Some k → is_live l.sight t.line ≡ true
    by true h f = h
    by false h f = absurd (cc)

pub live_asleep : (l : Lists) (t : Ticket) (k : ℕ) → found_asleep l t ≡ Some k → is_live l.sight t.line ≡ true
live_asleep l t k e = by (is_live l.sight t.line) refl e
  where
    by : (b : Bool) → is_live l.sight t.line ≡ b → (if b then found_lasting l.mail t else None) ≡ Some k → is_live l.sight t.line ≡ true
    by true h f = h
    by false h f = absurd (cc)

-- A line more.

pub opened_out : (was is : ℕ → Awaited → Type 0) (old new : Lists) → new.mail ≡ (opened old).mail → WaitsOn NoneHeard [] was is old.sight new.sight → StayOut was is old new
opened_out was is old new e w o = record {
  lines = λ line a h. subst (λ mail. IsAwaitedIn mail line a) (sym e) (elim (w.lines line a h) [
    | inl i ↦ kept NoneHeard old.mail (opened old).mail (stays_opened NoneHeard old.mail) line a i.1 (o.lines line a i.0)
    | inr p ↦ absurd (let low = p.2 in omega arith)
  ]);
  groups = λ g h. subst (λ mail. IsAskedIn mail g) (sym e) (elim (w.groups g h) [
    | inl i ↦ let was = o.groups g i.0 in (was.0, (stays_opened NoneHeard old.mail).replies g.ticket was.0 i.1 was.1)
    | inr p ↦ absurd (let low = p.2 in omega arith)
  ]);
}

pub nothing_out : (waits : ℕ → Awaited → Type 0) → waiting.NoneWaits waits → AreOut waits nothing
nothing_out waits none = record { lines = λ line a h. absurd (none line a h); groups = λ g out. absurd (let e = out.1 in cc) }
