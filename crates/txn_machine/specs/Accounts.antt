-- What becomes of what lines ask of transactions: what is refused, what writes answer, and how far each transaction has come. Lines
-- stand here with the newest first.
use Rattle.std.specs.Prelude.{◌≡◌, ◌≢◌, ℕ, Bool, true, false, not, ◌&&◌, if◌then◌else◌, List, [], ◌∷◌, length, Option, Some, None, nat_eq}
use Rattle.txn_kv.specs.declared.errors.Error.{Error}
use Rattle.txn_lines.specs.Deeds.{deed_of}
use Rattle.txn_lines.specs.declared.act.Act.{Act}
use Rattle.txn_lines.specs.declared.deed.Deed.{Deed}
use Rattle.txn_lines.specs.declared.deed.Deed.TheVariants as deeds
use Rattle.txn_lines.specs.declared.line.Line.{Line}
use Rattle.txn_report.specs.declared.outcome.Outcome.{Outcome}
use Rattle.txn_report.specs.declared.outcome.Outcome.TheVariants.{Ok, Err, Skipped}
use Rattle.txn_report.specs.declared.outcome.Payload.TheVariants.{Unit as Nothing}
use Rattle.txn_report.specs.declared.report.Report.{Report}
use Rattle.txn_side.specs.Account.{Account, AreClosed, AreKept, MayTakeIn, after_act, awaited_line, closed_by, is_write, new_account, refusal}
use Rattle.txn_side.specs.Sight.{Sight, Stand, stand_at}
use Rattle.txn_side.specs.Sight.Stand.{Calling}
use Rattle.txn_side.specs.declared.turn.Turn.{Turn}
use Rattle.txn_machine.specs.Causes.{ended_of, is_skipped, tells}
use Rattle.txn_machine.specs.Lists.{Lists, newest}
use Rattle.txn_machine.specs.Running.{HasMemory}
use Rattle.txn_machine.specs.Script.{outcome_of}
use Rattle.txn_machine.specs.Steps.{ended_in}
use Rattle.txn_machine.specs.declared.done.Done.{Done as Course}
use Rattle.txn_machine.specs.declared.machine.Machine.{Machine}

-- what a line asks of the transaction of another
pub record Ask : Type 0 where
  pub transaction : ℕ
  pub act : Act

abbrev pub ask_for : Deed → Option Ask
ask_for (deeds.Use x act) = Some (record { transaction = x; act = act })
ask_for deed = None

abbrev pub ask_of : Line → Option Ask
ask_of line = ask_for (deed_of line)

-- it is asked of the transaction of line x, in a line that was not skipped
abbrev pub is_asked : Ask → ℕ → Outcome → Bool
is_asked ask x o = nat_eq ask.transaction x && not (is_skipped o)

-- What line n makes of the transaction of line x. What it asked came to this outcome, in the step of line e, or is Unfinished.
abbrev pub after_line : Option Ask → ℕ → ℕ → Outcome → ℕ → Account → Account
after_line None n x o e account = account
after_line (Some ask) n x o e account = if is_asked ask x o then after_act ask.act (nat_eq e n) o account else account

-- how far the transaction of line x has come after these lines, and what it has taken in
abbrev pub account_of : (ℕ → Outcome) → (ℕ → ℕ) → List Line → ℕ → Account
account_of seen ends [] x = new_account
account_of seen ends (line ∷ before) x = after_line (ask_of line) (length (line ∷ before)) x (seen (length (line ∷ before))) (ends (length (line ∷ before))) (account_of seen ends before x)

-- What has to be answered in the step of line n itself: that it is refused, and to each write.
abbrev pub AnswersIn : ℕ → Act → Option Error → Outcome → ℕ → Type 0
AnswersIn n act None o e = is_write act ≡ true → (o ≡ Ok Nothing) × (e ≡ n)
AnswersIn n act (Some why) o e = (o ≡ Err why) × (e ≡ n)

-- what line n asks is answered by the account of its transaction, if it is not skipped
abbrev pub AccountMeets : (ℕ → Account) → ℕ → Option Ask → Outcome → ℕ → Type 0
AccountMeets accounts n None o e = Unit {0}
AccountMeets accounts n (Some ask) o e = is_skipped o ≡ false → AnswersIn n ask.act (refusal ask.act (accounts ask.transaction)) o e

abbrev pub AllAccountsMeet : List Outcome → List ℕ → List Line → Type 0
AllAccountsMeet outs ended [] = Unit {0}
AllAccountsMeet outs ended (line ∷ before) =
    AccountMeets (λ x. account_of (λ n. outcome_of outs n) (λ n. ended_of ended n) before x) (length (line ∷ before)) (ask_of line) (outcome_of outs (length (line ∷ before))) (ended_of ended (length (line ∷ before))) × AllAccountsMeet outs ended before

abbrev pub AccountsMeetLines : List Line → Report → Type 0
AccountsMeetLines script report = AllAccountsMeet report.outcomes report.ended script

-- What a machine keeps of it while the script goes on.

-- the accounts of the clients are those that the lines tell, by what they came to so far
pub record AreTakenIn (script : List Line) (outs : List Outcome) (ended : List ℕ) (accounts : ℕ → Account) : Type 0 where
  pub accounts_are : (x : ℕ) → accounts x ≡ account_of (λ n. outcome_of outs n) (λ n. ended_of ended n) script x
  pub meets : AllAccountsMeet outs ended script

-- where memory was never wanting
abbrev pub TakenIn : {S : Type 0} → (S → ℕ → Account) → Machine S → List Line → Type 0
TakenIn account m script = HasMemory m → AreTakenIn script m.outcomes.items m.ended.items (account m.clients)

-- What a step makes of the accounts

abbrev pub own_by : Option Turn → Option Outcome
own_by None = Some Skipped
own_by (Some turn) = None

-- the line asks this of a transaction, or is skipped where there is no turn of it
pub record AsksIt (ask : Ask) (newest : ℕ) (old new : ℕ → Account) (done : Course) : Type 0 where
  pub turn : Option Turn
  pub takes : MayTakeIn ask.act ask.transaction newest old new turn
  pub own : done.outcome ≡ own_by turn
  pub ended : done.turn.ended.items ≡ ended_in turn

-- calls end where the clients hear of something
abbrev pub ClosesIf : Bool → Sight → (ℕ → Account) → (ℕ → Account) → Course → Type 0
ClosesIf true s old new done = AreClosed s done.turn.ended.items old new
ClosesIf false s old new done = AreKept old new

abbrev pub CreditsBy : Option Ask → Bool → Lists → (ℕ → Account) → (ℕ → Account) → Course → Type 0
CreditsBy None told l old new done = ClosesIf told l.sight old new done
CreditsBy (Some ask) told l old new done = AsksIt ask (newest l) old new done

-- what the newest line makes of the accounts, once it is known what it came to
abbrev pub Credits : Deed → Lists → (ℕ → Account) → (ℕ → Account) → Course → Type 0
Credits deed l old new done = CreditsBy (ask_for deed) (tells deed) l old new done

-- And by the lists that its step left.

-- the line was not skipped
pub record WasAsked (ask : Ask) (old new : ℕ → Account) (l : Lists) : Type 0 where
  pub own : new ask.transaction ≡ after_act ask.act (nat_eq (ended_of l.ended (newest l)) (newest l)) (outcome_of l.outcomes (newest l)) (old ask.transaction)
  pub others : (n : ℕ) → n ≢ ask.transaction → new n ≡ old n
  pub answer : AnswersIn (newest l) ask.act (refusal ask.act (old ask.transaction)) (outcome_of l.outcomes (newest l)) (ended_of l.ended (newest l))

abbrev pub WasAskedIf : Bool → Ask → (ℕ → Account) → (ℕ → Account) → Lists → Type 0
WasAskedIf true ask old new l = WasAsked ask old new l
WasAskedIf false ask old new l = AreKept old new

-- what stood at a line was a call, and ended with this outcome
abbrev pub closed_if : Stand → Bool → Outcome → Account → Account
closed_if (Calling c x commits) true o account = closed_by commits o account
closed_if stand ended o account = account

-- what the step that left these lists made of the transaction of line x, by what stood at the lines before
abbrev pub after_step : Sight → Lists → ℕ → Account → Account
after_step s l x account = let m = awaited_line (stand_at s.stands x) in closed_if (stand_at s.stands m) (nat_eq (ended_of l.ended m) (newest l)) (outcome_of l.outcomes m) account

abbrev pub WereClosedIf : Bool → Sight → (ℕ → Account) → (ℕ → Account) → Lists → Type 0
WereClosedIf true s old new l = (x : ℕ) → new x ≡ after_step s l x (old x)
WereClosedIf false s old new l = AreKept old new

abbrev pub CreditedBy : Option Ask → Bool → Sight → (ℕ → Account) → (ℕ → Account) → Lists → Type 0
CreditedBy None told s old new l = WereClosedIf told s old new l
CreditedBy (Some ask) told s old new l = WasAskedIf (not (is_skipped (outcome_of l.outcomes (newest l)))) ask old new l

abbrev pub Credited : Deed → Sight → (ℕ → Account) → (ℕ → Account) → Lists → Type 0
Credited deed s old new l = CreditedBy (ask_for deed) (tells deed) s old new l
