-- How each line begins, and what the clients do then.
use Rattle.std.proofs.Common.{◌≡◌, ℕ, ◌⊎◌, inl, inr, Bool, true, false, ◌&&◌, if◌then◌else◌, List, [], Option, Some, None, get_or, is_some, refl, sym, ap, ◌∙◌, subst, arith}
use Rattle.std.specs.List.{All}
use Rattle.txn_kv.specs.declared.reply.Reply.{Reply}
use Rattle.txn_kv.specs.declared.ticket.Ticket.{Ticket}
use Rattle.txn_history.specs.Busy.{busy_reply}
use Rattle.txn_lines.specs.Deeds.{begins}
use Rattle.txn_lines.specs.declared.deed.Deed.{Deed}
use Rattle.txn_lines.specs.declared.deed.Deed.TheVariants as deeds
use Rattle.txn_lines.specs.declared.happening.Happening.TheVariants as happenings
use Rattle.txn_model.specs.Regions.{at_clock, can_lead, can_split, lead, split}
use Rattle.txn_post.specs.Mail.{Mail, as_sent, as_slept, can_be_served, changing, delivering, found_awaited, found_lasting, found_unserved, is_awaited, is_lasting, keeping, letter_at, losing, only, place_of, refusing, taking, waking}
use Rattle.txn_post.specs.declared.letter.Letter.{Letter}
use Rattle.txn_report.specs.declared.outcome.Outcome.{Outcome}
use Rattle.txn_report.specs.declared.outcome.Outcome.TheVariants.{Done, Ok, Skipped}
use Rattle.txn_report.specs.declared.outcome.Payload.TheVariants.{Unit as Nothing}
use Rattle.txn_side.specs.Sight.{Acts, Asks, EndsAlone, Goes, IsGiven, LineGoes, Names, NoneGiven, Sight, Stand, client_at, commits, connected, crash, is_free, is_live, line_count, stand_at, with_stand}
use Rattle.txn_side.specs.Sight.Stand.{Asking, Calling, HasBegun, Idle, IsClient, Past, Working}
use Rattle.txn_lines.specs.declared.act.Act.{Act}
use Rattle.txn_side.specs.declared.turn.Ending.{Ending}
use Rattle.txn_side.specs.declared.turn.Posting.{Posting}
use Rattle.txn_side.specs.declared.turn.Turn.{Turn}
use Rattle.txn_machine.specs.Causes.{Role, role_for, tells}
use Rattle.txn_machine.specs.Causes.Role.{AsksTime, MakesClient, NoCall, UsesTransaction}
use Rattle.txn_machine.specs.Lists.{Lists, fated, followed, handled, opened, outright, reply_at, request_at, with_mail, with_sight, with_store}
use Rattle.txn_machine.specs.Running.{with_own}
use Rattle.txn_machine.specs.Script.{is_done}
use Rattle.txn_machine.specs.Steps.{Answers, AtPlace, Delivers, Does, Hears, IfServable, IsBusy, Loses, Refuses, Serves, Takes, Wakes, called, does_it, done_if, found_asleep, found_out, skipped, test_at}

-- it is skipped, and the clients stay as they were
pub record IsIdle (can : Bool) (own : Option Outcome) (ended : List Ending) (s from : Sight) : Type 0 where
  pub is : own ≡ Some Skipped
  pub cannot : can ≡ false
  pub same : from ≡ s
  pub none : ended ≡ []

pub record IsAsked (k : ℕ) (b : Bool) (own : Option Outcome) (ended : List Ending) (s from : Sight) : Type 0 where
  pub client : ℕ
  pub is : own ≡ None
  pub there : client_at (stand_at s.stands k) ≡ Some client
  pub can : is_live s k ≡ true
  pub begun : from ≡ with_stand (line_count s) (Asking client b) s
  pub alone : EndsAlone (line_count s) ended

pub record IsCalled (x : ℕ) (b : Bool) (own : Option Outcome) (ended : List Ending) (s from : Sight) : Type 0 where
  pub client : ℕ
  pub is : own ≡ None
  pub free : stand_at s.stands x ≡ HasBegun client 0
  pub can : is_free s x ≡ true
  pub begun : from ≡ with_stand (line_count s) (Calling client x b) (with_stand x (HasBegun client (line_count s)) s)
  pub alone : EndsAlone (line_count s) ended

-- a client that a line names is gone
abbrev pub Falls : Deed → Bool → Sight → Sight → Type 0
Falls (deeds.Happens (happenings.Crash k)) d s from = (d ≡ is_live s k) × (from ≡ crash k s)
Falls deed d s from = from ≡ s

pub record IsEvent (deed : Deed) (own : Option Outcome) (ended : List Ending) (s from : Sight) : Type 0 where
  pub done : Bool
  pub is : own ≡ Some (done_if done)
  pub falls : Falls deed done s from
  pub ends : (ended ≡ []) ⊎ ((done ≡ true) × (tells deed ≡ true))

pub record IsMade (own : Option Outcome) (ended : List Ending) (s from : Sight) : Type 0 where
  pub is : own ≡ Some (Ok Nothing)
  pub begun : from ≡ connected s
  pub none : ended ≡ []

abbrev pub Begins : Role → Deed → Option Outcome → List Ending → Sight → Sight → Type 0
Begins MakesClient deed own ended s from = IsMade own ended s from
Begins (AsksTime b k) deed own ended s from = IsIdle (is_live s k) own ended s from ⊎ IsAsked k b own ended s from
Begins (UsesTransaction b x) deed own ended s from = IsIdle (is_free s x) own ended s from ⊎ IsCalled x b own ended s from
Begins NoCall deed own ended s from = IsEvent deed own ended s from

-- What an event does.

-- the letter of the request that the ticket names changes
pub record Changes (t : Ticket) (change : ℕ → Letter → Letter) (l : Lists) (mail : Mail) : Type 0 where
  pub place : ℕ
  pub sent : as_sent (place_of l.mail.tickets t) ≡ Some place
  pub is : mail ≡ changing (change place) place l.mail

pub record Answered (t : Ticket) (l : Lists) (mail : Mail) : Type 0 where
  pub place : ℕ
  pub sent : as_sent (place_of l.mail.tickets t) ≡ Some place
  pub awaited : (letter_at l.mail place).awaited ≡ true
  pub reply : Reply
  pub kept : (letter_at l.mail place).kept ≡ Some reply
  pub is : mail ≡ changing taking place l.mail

pub record Busied (t : Ticket) (l : Lists) (mail : Mail) : Type 0 where
  pub place : ℕ
  pub sent : as_sent (place_of l.mail.tickets t) ≡ Some place
  pub reply : Reply
  pub busy : busy_reply (request_at l place) ≡ Some reply
  pub is : mail ≡ changing refusing place l.mail

pub record Wakened (t : Ticket) (l : Lists) (mail : Mail) : Type 0 where
  pub place : ℕ
  pub slept : as_slept (place_of l.mail.tickets t) ≡ Some place
  pub is : mail ≡ waking place l.mail

-- what a line that is done, or not, makes of the mail
abbrev pub MailGoes : Bool → Deed → Lists → Mail → Type 0
MailGoes false deed l mail = mail ≡ l.mail
MailGoes true (deeds.Happens (happenings.Serve t)) l mail = Changes t (λ k. keeping (reply_at l k)) l mail
MailGoes true (deeds.Happens (happenings.Answer t)) l mail = Answered t l mail
MailGoes true (deeds.Happens (happenings.Deliver t)) l mail = Changes t (λ k. delivering) l mail
MailGoes true (deeds.Happens (happenings.Lose t)) l mail = Changes t (λ k. losing) l mail
MailGoes true (deeds.Happens (happenings.Busy t)) l mail = Busied t l mail
MailGoes true (deeds.Happens (happenings.Wake t)) l mail = Wakened t l mail
MailGoes true deed l mail = mail ≡ l.mail

-- a reply to the request that the ticket names, of which the clients are told, gives a line a timestamp
pub record IsTold (Replies : ℕ → Reply → Type 0) (t : Ticket) (l : Lists) (n version : ℕ) : Type 0 where
  pub place : ℕ
  pub sent : as_sent (place_of l.mail.tickets t) ≡ Some place
  pub reply : Reply
  pub is : Replies place reply
  pub given : IsGiven l.sight t reply n version

-- what a line that is done, or not, gives a line
abbrev pub Given : Bool → Deed → Lists → ℕ → ℕ → Type 0
Given false deed l n version = ⊥
Given true (deeds.Happens (happenings.Answer t)) l n version = IsTold (λ k o. ((letter_at l.mail k).awaited ≡ true) × ((letter_at l.mail k).kept ≡ Some o)) t l n version
Given true (deeds.Happens (happenings.Deliver t)) l n version = IsTold (λ k o. o ≡ reply_at l k) t l n version
Given true (deeds.Happens (happenings.Busy t)) l n version = IsTold (λ k o. busy_reply (request_at l k) ≡ Some o) t l n version
Given true deed l n version = ⊥

abbrev pub own_done : Option Outcome → Bool
own_done None = false
own_done (Some o) = is_done o

-- The line begins from the lists that were, and what it comes to is followed by what the clients do.
pub record Course (deed : Deed) (old new : Lists) : Type 0 where
  pub own : Option Outcome
  pub mid : Lists
  pub posted : List Posting
  pub ended : List Ending
  pub from : Sight
  pub is : new ≡ followed posted ended mid
  pub outcomes : mid.outcomes ≡ (with_own own (opened old)).outcomes
  pub ends : mid.ended ≡ (with_own own (opened old)).ended
  pub goes : Goes posted ended from mid.sight
  pub begins : Begins (role_for deed) deed own ended (opened old).sight from
  pub sure : role_for deed ≡ NoCall → own ≡ Some (done_if (does_it deed (opened old)))
  pub mails : MailGoes (own_done own) deed (opened old) mid.mail
  pub times : All (Names (Given (own_done own) deed (opened old))) ended

line_stays : (n : ℕ) (s : Stand) → LineGoes [] n s s
line_stays n Idle = (refl, refl)
line_stays n (IsClient c) = (refl, refl)
line_stays n (Asking c b) = refl
line_stays n (HasBegun c m) = (refl, refl)
line_stays n (Calling c x b) = refl
line_stays n (Past c) = (refl, refl)
line_stays n (Working c) = (refl, refl)

sight_stays : (s : Sight) → Goes [] [] s s
sight_stays s = record { crashed = refl; count = refl; lines = λ n. line_stays n (stand_at s.stands n); live = λ k d h. absurd (omega arith); posting = λ k d h. absurd (omega arith); numbers = refl; askers = λ k d h. absurd (omega arith); groups = λ g out. inl out }

pub only_there : (p : ℕ → Bool) (o : Option ℕ) (k : ℕ) → only p o ≡ Some k → (o ≡ Some k) × (p k ≡ true)
only_there p None k e = absurd (cc)
only_there p (Some j) k e = by (p j) refl e
  where
    by : (b : Bool) → p j ≡ b → (if b then Some j else None) ≡ Some k → (◌≡◌ {A = Option ℕ} (Some j) (Some k)) × (p k ≡ true)
    by true q f = let same : j ≡ k = cc in (f, subst (λ i. p i ≡ true) same q)
    by false q f = absurd (cc)

module _ (old : Lists) where
  -- the outcome comes at once, and the clients do nothing more
  at_once : (deed : Deed) (y new : Lists) (o : Outcome) → new ≡ outright o y → y.outcomes ≡ (opened old).outcomes → y.ended ≡ (opened old).ended → Begins (role_for deed) deed (Some o) [] (opened old).sight y.sight
      → (role_for deed ≡ NoCall → ◌≡◌ {A = Option Outcome} (Some o) (Some (done_if (does_it deed (opened old))))) → MailGoes (is_done o) deed (opened old) y.mail → Course deed old new
  at_once deed y new o is outs ends begins sure mails = record {
    own = Some o;
    mid = outright o y;
    posted = [];
    ended = [];
    from = y.sight;
    is = is;
    outcomes = ap (λ os. (outright o (record y { outcomes = os })).outcomes) outs;
    ends = λ i. (outright o (record y { outcomes = outs i; ended = ends i })).ended;
    goes = sight_stays y.sight;
    begins = begins;
    sure = sure;
    mails = mails;
    times = λ k d h. absurd (omega arith);
  }

  -- an event that could do nothing
  missed : (deed : Deed) (new : Lists) → role_for deed ≡ NoCall → ((s : Sight) → Falls deed false s s) → does_it deed (opened old) ≡ false → new ≡ skipped (opened old) → Course deed old new
  missed deed new role falls cannot is = at_once deed (opened old) new Skipped is refl refl
      (subst (λ r. Begins r deed (Some Skipped) [] (opened old).sight (opened old).sight) (sym role) (record { done = false; is = refl; falls = falls (opened old).sight; ends = inl refl }))
      (λ r. ap (λ b. Some (done_if b)) (sym cannot)) refl

  -- an event of which the clients hear
  heard : (Gives : ℕ → ℕ → Type 0) (deed : Deed) (y new : Lists) → ((n version : ℕ) → Gives n version → Given true deed (opened old) n version) → role_for deed ≡ NoCall → ((s : Sight) → Falls deed true s s) → tells deed ≡ true → y.outcomes ≡ (opened old).outcomes → y.ended ≡ (opened old).ended → y.sight ≡ (opened old).sight → does_it deed (opened old) ≡ true → MailGoes true deed (opened old) y.mail → Hears Gives y new → Course deed old new
  heard Gives deed y new gives role falls tell outs ends sight can mails c = record {
    own = Some Done;
    mid = outright Done (with_sight c.sight y);
    posted = c.posted;
    ended = c.ended;
    from = y.sight;
    is = c.is;
    outcomes = ap (λ os. (outright Done (record y { outcomes = os })).outcomes) outs;
    ends = λ i. (outright Done (record y { outcomes = outs i; ended = ends i })).ended;
    goes = c.goes;
    begins = subst (λ r. Begins r deed (Some Done) c.ended (opened old).sight y.sight) (sym role)
        (record { done = true; is = refl; falls = subst (λ s. Falls deed true (opened old).sight s) (sym sight) (falls (opened old).sight); ends = inr (refl, tell) });
    sure = λ r. ap (λ b. Some (done_if b)) (sym can);
    mails = mails;
    times = λ k d low version e. gives (get_or c.ended k d).line version (c.times k d low version e);
  }

  asks : (deed : Deed) (b : Bool) (k : ℕ) (new : Lists) (s : Sight) (turn : Option Turn) → role_for deed ≡ AsksTime b k → Asks b k (opened old).sight s turn → new ≡ called turn (with_sight s (opened old)) → Course deed old new
  asks deed b k new s None role a is = at_once deed (with_sight s (opened old)) new Skipped is refl refl
      (subst (λ r. Begins r deed (Some Skipped) [] (opened old).sight s) (sym role) (inl (record { is = refl; cannot = a.0; same = a.1; none = refl })))
      (λ r. absurd (let z = sym role ∙ r in cc)) refl
  asks deed b k new s (Some turn) role a is = record {
    own = None;
    mid = with_sight s (opened old);
    posted = turn.posted.items;
    ended = turn.ended.items;
    from = with_stand (line_count (opened old).sight) (Asking a.0 b) (opened old).sight;
    is = is;
    outcomes = refl;
    ends = refl;
    goes = a.3;
    begins = subst (λ r. Begins r deed None turn.ended.items (opened old).sight (with_stand (line_count (opened old).sight) (Asking a.0 b) (opened old).sight)) (sym role)
        (inr (record { client = a.0; is = refl; there = a.1; can = a.2; begun = refl; alone = a.4 }));
    sure = λ r. absurd (let z = sym role ∙ r in cc);
    mails = refl;
    times = a.5;
  }

  acts_so : (deed : Deed) (act : Act) (b : Bool) (x : ℕ) (new : Lists) (s : Sight) (turn : Option Turn) → role_for deed ≡ UsesTransaction b x → commits act ≡ b → Acts act x (opened old).sight s turn → new ≡ called turn (with_sight s (opened old)) → Course deed old new
  acts_so deed act b x new s None role kind a is = at_once deed (with_sight s (opened old)) new Skipped is refl refl
      (subst (λ r. Begins r deed (Some Skipped) [] (opened old).sight s) (sym role) (inl (record { is = refl; cannot = a.0; same = a.1; none = refl })))
      (λ r. absurd (let z = sym role ∙ r in cc)) refl
  acts_so deed act b x new s (Some turn) role kind a is = record {
    own = None;
    mid = with_sight s (opened old);
    posted = turn.posted.items;
    ended = turn.ended.items;
    from = calling;
    is = is;
    outcomes = refl;
    ends = refl;
    goes = subst (λ (k : Bool). Goes turn.posted.items turn.ended.items (with_stand (line_count (opened old).sight) (Calling a.0 x k) (with_stand x (HasBegun a.0 (line_count (opened old).sight)) (opened old).sight)) s) kind a.3;
    begins = subst (λ r. Begins r deed None turn.ended.items (opened old).sight calling) (sym role)
        (inr (record { client = a.0; is = refl; free = a.1; can = a.2; begun = refl; alone = a.4 }));
    sure = λ r. absurd (let z = sym role ∙ r in cc);
    mails = refl;
    times = a.5;
  }
    where
      calling : Sight
      calling = with_stand (line_count (opened old).sight) (Calling a.0 x b) (with_stand x (HasBegun a.0 (line_count (opened old).sight)) (opened old).sight)

  -- where a ticket was found
  pub out_there : (t : Ticket) (k : ℕ) → found_out (opened old) t ≡ Some k → (as_sent (place_of (opened old).mail.tickets t) ≡ Some k) × ((letter_at (opened old).mail k).awaited ≡ true)
  out_there t k e = by (is_live (opened old).sight t.line) e
    where
      by : (b : Bool) → (if b then found_awaited (opened old).mail t else None) ≡ Some k → (as_sent (place_of (opened old).mail.tickets t) ≡ Some k) × ((letter_at (opened old).mail k).awaited ≡ true)
      by true f = only_there (λ j. is_awaited (opened old).mail j) (as_sent (place_of (opened old).mail.tickets t)) k f
      by false f = absurd (cc)

  asleep_there : (t : Ticket) (k : ℕ) → found_asleep (opened old) t ≡ Some k → as_slept (place_of (opened old).mail.tickets t) ≡ Some k
  asleep_there t k e = by (is_live (opened old).sight t.line) e
    where
      by : (b : Bool) → (if b then found_lasting (opened old).mail t else None) ≡ Some k → as_slept (place_of (opened old).mail.tickets t) ≡ Some k
      by true f = (only_there (λ j. is_lasting (opened old).mail j) (as_slept (place_of (opened old).mail.tickets t)) k f).0
      by false f = absurd (cc)

  answers : (t : Ticket) (o : Option ℕ) (new : Lists) → found_out (opened old) t ≡ o → AtPlace o (Answers t) (opened old) new → Course (deeds.Happens (happenings.Answer t)) old new
  answers t None new e h = missed (deeds.Happens (happenings.Answer t)) new refl (λ s. refl) (ap (λ z. test_at (λ k. is_some (letter_at (opened old).mail k).kept) z) e) h
  answers t (Some place) new e h = by (letter_at (opened old).mail place).kept refl h
    where
      can : does_it (deeds.Happens (happenings.Answer t)) (opened old) ≡ is_some (letter_at (opened old).mail place).kept
      can = ap (λ z. test_at (λ k. is_some (letter_at (opened old).mail k).kept) z) e

      by : (kept : Option Reply) → (letter_at (opened old).mail place).kept ≡ kept → Takes t place kept (opened old) new → Course (deeds.Happens (happenings.Answer t)) old new
      by None k g = missed (deeds.Happens (happenings.Answer t)) new refl (λ s. refl) (can ∙ ap is_some k) g
      by (Some o) k g = heard (IsGiven (opened old).sight t o) (deeds.Happens (happenings.Answer t)) (fated taking place (opened old)) new
          (λ n version given. let there = out_there t place e in record { place = place; sent = there.0; reply = o; is = (there.1, k); given = given }) refl (λ s. refl) refl refl refl refl (can ∙ ap is_some k)
          (let there = out_there t place e in record { place = place; sent = there.0; awaited = there.1; reply = o; kept = k; is = refl }) g

  delivers : (t : Ticket) (o : Option ℕ) (new : Lists) → found_out (opened old) t ≡ o → AtPlace o (Delivers t) (opened old) new → Course (deeds.Happens (happenings.Deliver t)) old new
  delivers t None new e h = missed (deeds.Happens (happenings.Deliver t)) new refl (λ s. refl) (ap (λ z. test_at (λ k. can_be_served (opened old).mail k) z) e) h
  delivers t (Some place) new e h = by (can_be_served (opened old).mail place) refl h
    where
      can : does_it (deeds.Happens (happenings.Deliver t)) (opened old) ≡ can_be_served (opened old).mail place
      can = ap (λ z. test_at (λ k. can_be_served (opened old).mail k) z) e

      by : (b : Bool) → can_be_served (opened old).mail place ≡ b → IfServable b (λ l x. Hears (IsGiven l.sight t (reply_at l place)) (fated delivering place (handled t place l)) x) (opened old) new → Course (deeds.Happens (happenings.Deliver t)) old new
      by false k g = missed (deeds.Happens (happenings.Deliver t)) new refl (λ s. refl) (can ∙ k) g
      by true k g = heard (IsGiven (opened old).sight t (reply_at (opened old) place)) (deeds.Happens (happenings.Deliver t)) (fated delivering place (handled t place (opened old))) new
          (λ n version given. record { place = place; sent = (out_there t place e).0; reply = reply_at (opened old) place; is = refl; given = given }) refl (λ s. refl) refl refl refl refl (can ∙ k)
          (record { place = place; sent = (out_there t place e).0; is = refl }) g

  busies : (t : Ticket) (o : Option ℕ) (new : Lists) → found_out (opened old) t ≡ o → AtPlace o (IsBusy t) (opened old) new → Course (deeds.Happens (happenings.Busy t)) old new
  busies t None new e h = missed (deeds.Happens (happenings.Busy t)) new refl (λ s. refl) (ap (λ z. test_at (λ k. can_be_served (opened old).mail k && is_some (busy_reply (request_at (opened old) k))) z) e) h
  busies t (Some place) new e h = by (can_be_served (opened old).mail place) refl h
    where
      can : does_it (deeds.Happens (happenings.Busy t)) (opened old) ≡ (can_be_served (opened old).mail place && is_some (busy_reply (request_at (opened old) place)))
      can = ap (λ z. test_at (λ k. can_be_served (opened old).mail k && is_some (busy_reply (request_at (opened old) k))) z) e

      refuses : (reply : Option Reply) → can_be_served (opened old).mail place ≡ true → busy_reply (request_at (opened old) place) ≡ reply → Refuses t place reply (opened old) new → Course (deeds.Happens (happenings.Busy t)) old new
      refuses None k r g = missed (deeds.Happens (happenings.Busy t)) new refl (λ s. refl) (can ∙ (λ i. k i && is_some (r i))) g
      refuses (Some o) k r g = heard (IsGiven (opened old).sight t o) (deeds.Happens (happenings.Busy t)) (fated refusing place (opened old)) new
          (λ n version given. record { place = place; sent = (out_there t place e).0; reply = o; is = r; given = given }) refl (λ s. refl) refl refl refl refl (can ∙ (λ i. k i && is_some (r i)))
          (record { place = place; sent = (out_there t place e).0; reply = o; busy = r; is = refl }) g

      by : (b : Bool) → can_be_served (opened old).mail place ≡ b → IfServable b (λ l x. Refuses t place (busy_reply (request_at l place)) l x) (opened old) new → Course (deeds.Happens (happenings.Busy t)) old new
      by false k g = missed (deeds.Happens (happenings.Busy t)) new refl (λ s. refl) (can ∙ ap (λ b. b && is_some (busy_reply (request_at (opened old) place))) k) g
      by true k g = refuses (busy_reply (request_at (opened old) place)) k refl g

  loses : (t : Ticket) (o : Option ℕ) (new : Lists) → found_out (opened old) t ≡ o → AtPlace o Loses (opened old) new → Course (deeds.Happens (happenings.Lose t)) old new
  loses t None new e h = missed (deeds.Happens (happenings.Lose t)) new refl (λ s. refl) (ap (λ z. test_at (λ k. true) z) e) h
  loses t (Some place) new e h = heard NoneGiven (deeds.Happens (happenings.Lose t)) (fated losing place (opened old)) new (λ n version given. absurd given) refl (λ s. refl) refl refl refl refl (ap (λ z. test_at (λ k. true) z) e) (record { place = place; sent = (out_there t place e).0; is = refl }) h

  wakes : (t : Ticket) (o : Option ℕ) (new : Lists) → found_asleep (opened old) t ≡ o → AtPlace o Wakes (opened old) new → Course (deeds.Happens (happenings.Wake t)) old new
  wakes t None new e h = missed (deeds.Happens (happenings.Wake t)) new refl (λ s. refl) (ap (λ z. test_at (λ k. true) z) e) h
  wakes t (Some place) new e h = heard NoneGiven (deeds.Happens (happenings.Wake t)) (with_mail (waking place (opened old).mail) (opened old)) new (λ n version given. absurd given) refl (λ s. refl) refl refl refl refl (ap (λ z. test_at (λ k. true) z) e) (record { place = place; slept = asleep_there t place e; is = refl }) h

  serves : (t : Ticket) (o : Option ℕ) (new : Lists) → found_unserved (opened old).mail t ≡ o → AtPlace o (Serves t) (opened old) new → Course (deeds.Happens (happenings.Serve t)) old new
  serves t None new e h = missed (deeds.Happens (happenings.Serve t)) new refl (λ s. refl) (ap (λ z. test_at (λ k. true) z) e) h
  serves t (Some place) new e h = at_once (deeds.Happens (happenings.Serve t)) (fated (keeping (reply_at (opened old) place)) place (handled t place (opened old))) new Done h refl refl (record { done = true; is = refl; falls = refl; ends = inl refl })
      (λ r. ap (λ b. Some (done_if b)) (sym (ap (λ z. test_at (λ k. true) z) e)))
      (record { place = place; sent = (only_there (λ j. can_be_served (opened old).mail j) (as_sent (place_of (opened old).mail.tickets t)) place e).0; is = refl })

  -- an event that is not about a ticket
  split_mail : (d : Bool) (key : List ℕ) → MailGoes (is_done (done_if d)) (deeds.Happens (happenings.Split key)) (opened old) (opened old).mail
  split_mail true key = refl
  split_mail false key = refl

  lead_mail : (d : Bool) (region store : ℕ) → MailGoes (is_done (done_if d)) (deeds.Happens (happenings.Lead region store)) (opened old) (opened old).mail
  lead_mail true region store = refl
  lead_mail false region store = refl

  crash_mail : (d : Bool) (client : ℕ) → MailGoes (is_done (done_if d)) (deeds.Happens (happenings.Crash client)) (opened old) (opened old).mail
  crash_mail true client = refl
  crash_mail false client = refl

  pub course : (deed : Deed) (new : Lists) → Does deed (opened old) new → Course deed old new
  course deeds.Nothing new s = at_once deeds.Nothing (opened old) new Done s refl refl (record { done = true; is = refl; falls = refl; ends = inl refl }) (λ r. refl) refl
  course deeds.Connect new s = at_once deeds.Connect (with_sight (connected (opened old).sight) (opened old)) new (Ok Nothing) s refl refl (record { is = refl; begun = refl; none = refl }) (λ r. absurd (cc)) refl
  course (deeds.Ask client act) new s = asks (deeds.Ask client act) (begins act) client new s.sight s.turn refl s.begins s.is
  course (deeds.Use x act) new s = acts_so (deeds.Use x act) act (commits act) x new s.sight s.turn refl refl s.begins s.is
  course (deeds.Happens (happenings.Serve t)) new s = serves t (found_unserved (opened old).mail t) new refl s
  course (deeds.Happens (happenings.Answer t)) new s = answers t (found_out (opened old) t) new refl s
  course (deeds.Happens (happenings.Deliver t)) new s = delivers t (found_out (opened old) t) new refl s
  course (deeds.Happens (happenings.Lose t)) new s = loses t (found_out (opened old) t) new refl s
  course (deeds.Happens (happenings.Busy t)) new s = busies t (found_out (opened old) t) new refl s
  course (deeds.Happens (happenings.Wake t)) new s = wakes t (found_asleep (opened old) t) new refl s
  course (deeds.Happens (happenings.Split key)) new s = at_once (deeds.Happens (happenings.Split key)) (with_store (split old.store key) (opened old)) new (done_if (can_split old.store key)) s refl refl (record { done = can_split old.store key; is = refl; falls = refl; ends = inl refl }) (λ r. refl) (split_mail (can_split old.store key) key)
  course (deeds.Happens (happenings.Lead region store)) new s = at_once (deeds.Happens (happenings.Lead region store)) (with_store (lead old.store region store) (opened old)) new (done_if (can_lead old.store region store)) s refl refl (record { done = can_lead old.store region store; is = refl; falls = refl; ends = inl refl }) (λ r. refl) (lead_mail (can_lead old.store region store) region store)
  course (deeds.Happens (happenings.Clock ms)) new s = at_once (deeds.Happens (happenings.Clock ms)) (with_store (at_clock old.store ms) (opened old)) new Done s refl refl (record { done = true; is = refl; falls = refl; ends = inl refl }) (λ r. refl) refl
  course (deeds.Happens (happenings.Crash client)) new s = at_once (deeds.Happens (happenings.Crash client)) (with_sight (crash client (opened old).sight) (opened old)) new (done_if (is_live (opened old).sight client)) s refl refl (record { done = is_live (opened old).sight client; is = refl; falls = (refl, refl); ends = inl refl }) (λ r. refl) (crash_mail (is_live (opened old).sight client) client)
