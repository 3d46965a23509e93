-- When a call can do nothing, by what stands at the lines and by the lines.
use Rattle.std.proofs.Common.{◌≡◌, ℕ, zero, suc, ◌≤◌, Bool, true, false, not, ◌&&◌, ◌||◌, if◌then◌else◌, List, Option, Some, None, length, nat_eq, nat_le, refl, sym, ap, ◌∙◌, subst, arith}
use Rattle.std.proofs.lemmas.Bool.Decides.{nat_tests}
use Rattle.txn_lines.specs.Lines.{clients_in, clock_in, is_kind, is_line_of, kind_by, line_at, max_lines, named_by, named_in, or_else, why_after, why_alone, why_named}
use Rattle.txn_lines.specs.Deeds.{begins, deed_of}
use Rattle.txn_lines.specs.declared.deed.Deed.{Deed}
use Rattle.txn_lines.specs.declared.deed.Deed.TheVariants as deeds
use Rattle.txn_lines.specs.declared.happening.Happening.TheVariants as happenings
use Rattle.txn_lines.specs.declared.line.Line.{Line}
use Rattle.txn_lines.specs.declared.line.Line.TheVariants as lines
use Rattle.txn_lines.specs.declared.line_kinds.LineKind.{LineKind}
use Rattle.txn_lines.specs.declared.line_kinds.LineKind.TheVariants as kinds
use Rattle.txn_lines.specs.declared.script.Why.{Why}
use Rattle.txn_lines.specs.declared.script.Why.TheVariants.{TooMany, NotEarlier, Kind}
use Rattle.txn_report.specs.declared.outcome.Outcome.{Outcome}
use Rattle.txn_side.specs.Sight.{Stand, client_at, free, lives}
use Rattle.txn_side.specs.Sight.Stand.{Calling, HasBegun, IsClient}
use Rattle.txn_machine.specs.Causes.{Role, client_of, is_busy, is_crashed, is_idle, is_ok, is_unfinished, role_for, role_of, uses}
use Rattle.txn_machine.specs.Causes.Role.{AsksTime, MakesClient, NoCall, UsesTransaction}
use Rattle.txn_machine.specs.Rows.{AreRows, Row, outcome_in, role_in, stand_in}
use Rattle.txn_machine.specs.Rows.Row.{Acted, AskFailed, AskSkipped, AskWaits, Begun, CallFailed, CallSkipped, CallWaits, Happened, Made, Over, Timed, Works}
use Rattle.txn_machine.proofs.Numberings.{Waiting, busy_waits, line_range, waits_busy}

-- What a line that is not bad names.

pub good_named : (before : List Line) (line : Line) → why_after before line ≡ None → why_named before (named_by line) ≡ None
good_named before line e = by (nat_le max_lines (length before)) e
  where
    first : (a b : Option Why) → or_else a b ≡ None → a ≡ None
    first None b h = refl
    first (Some w) b h = absurd (cc)

    by : (b : Bool) → (if b then Some TooMany else or_else (why_named before (named_by line)) (why_alone (clients_in before) (clock_in before) line)) ≡ None → why_named before (named_by line) ≡ None
    by true h = absurd (cc)
    by false h = first (why_named before (named_by line)) (why_alone (clients_in before) (clock_in before) line) h

is_named : (before : List Line) (n : ℕ) (k : LineKind) → why_named before (Some (n, k)) ≡ None → is_line_of k (line_at before n) ≡ true
is_named before n k e = by (nat_le 1 n && nat_le n (length before)) (is_line_of k (line_at before n)) e
  where
    by : (a b : Bool) → (if a then (if b then None else Some Kind) else Some NotEarlier) ≡ None → b ≡ true
    by true true h = refl
    by true false h = absurd (cc)
    by false b h = absurd (cc)

client_line : (o : Option Line) → is_line_of kinds.Client o ≡ true → o ≡ Some lines.Client
client_line None h = absurd (cc)
client_line (Some lines.Client) h = refl
client_line (Some (lines.Begin c options)) h = absurd (cc)
client_line (Some line) h = absurd (cc)

-- it begins a transaction
pub record IsBegin (o : Option Line) : Type 0 where
  pub line : Line
  pub client : ℕ
  pub is : o ≡ Some line
  pub role : role_of line ≡ AsksTime true client

begin_deed : (deed : Deed) → is_kind kinds.Begin (kind_by deed) ≡ true → (client : ℕ) × (role_for deed ≡ AsksTime true client)
begin_deed (deeds.Ask client act) h = (client, by (begins act) h)
  where
    by : (b : Bool) → is_kind kinds.Begin (if b then kinds.Begin else kinds.Other) ≡ true → AsksTime b client ≡ AsksTime true client
    by true h = refl
    by false h = absurd (cc)
begin_deed deeds.Nothing h = absurd (cc)
begin_deed deeds.Connect h = absurd (cc)
begin_deed (deeds.Use x act) h = absurd (cc)
begin_deed (deeds.Happens what) h = absurd (cc)

begin_line : (o : Option Line) → is_line_of kinds.Begin o ≡ true → IsBegin o
begin_line None h = absurd (cc)
begin_line (Some line) h = let w = begin_deed (deed_of line) h in record { line = line; client = w.0; is = refl; role = w.1 }

abbrev pub Names : List Line → Role → Type 0
Names before MakesClient = Unit {0}
Names before (AsksTime b k) = line_at before k ≡ Some lines.Client
Names before (UsesTransaction b x) = IsBegin (line_at before x)
Names before NoCall = Unit {0}

pub names_client : (before : List Line) (k : ℕ) → why_named before (Some (k, kinds.Client)) ≡ None → line_at before k ≡ Some lines.Client
names_client before k h = client_line (line_at before k) (is_named before k kinds.Client h)

names_begin : (before : List Line) (x : ℕ) → why_named before (Some (x, kinds.Begin)) ≡ None → IsBegin (line_at before x)
names_begin before x h = begin_line (line_at before x) (is_named before x kinds.Begin h)

named : (before : List Line) (deed : Deed) → why_named before (named_in deed) ≡ None → Names before (role_for deed)
named before (deeds.Ask client act) h = names_client before client h
named before (deeds.Use x act) h = names_begin before x h
named before deeds.Nothing h = tt
named before deeds.Connect h = tt
named before (deeds.Happens what) h = tt

pub names : (before : List Line) (line : Line) → why_after before line ≡ None → Names before (role_of line)
names before line h = named before (deed_of line) (good_named before line h)

pub crash_names : (before : List Line) (line : Line) (k : ℕ) → why_after before line ≡ None → deed_of line ≡ deeds.Happens (happenings.Crash k) → line_at before k ≡ Some lines.Client
crash_names before line k h is = names_client before k (subst (λ d. why_named before (named_in d) ≡ None) is (good_named before line h))

-- What stands there.

pub record IsClientAt (stand : Stand) : Type 0 where
  pub client : ℕ
  pub is : stand ≡ IsClient client

made_row : (r : Row) → role_in r ≡ MakesClient → (c : ℕ) × (stand_in r ≡ IsClient c)
made_row (Made c) e = (c, refl)
made_row (AskWaits b k c) e = absurd (cc)
made_row (Begun k v c m) e = absurd (cc)
made_row (Timed k v c) e = absurd (cc)
made_row (AskFailed b k c x) e = absurd (cc)
made_row (AskSkipped b k) e = absurd (cc)
made_row (CallWaits b x c) e = absurd (cc)
made_row (Acted x c) e = absurd (cc)
made_row (Over x v c) e = absurd (cc)
made_row (Works x v c) e = absurd (cc)
made_row (CallFailed b x c y) e = absurd (cc)
made_row (CallSkipped b x) e = absurd (cc)
made_row (Happened d) e = absurd (cc)

-- a call of a transaction that waits
pub waiting_row : (r : Row) (b : Bool) (x : ℕ) → role_in r ≡ UsesTransaction b x → is_unfinished (outcome_in r) ≡ true → (c : ℕ) × (stand_in r ≡ Calling c x b)
waiting_row (CallWaits a y c) b x e u = (c, let p : y ≡ x = cc in let q : a ≡ b = cc in λ i. Calling c (p i) (q i))
waiting_row (Made c) b x e u = absurd (cc)
waiting_row (AskWaits a k c) b x e u = absurd (cc)
waiting_row (Begun k v c m) b x e u = absurd (cc)
waiting_row (Timed k v c) b x e u = absurd (cc)
waiting_row (AskFailed a k c y) b x e u = absurd (cc)
waiting_row (AskSkipped a k) b x e u = absurd (cc)
waiting_row (Acted y c) b x e u = absurd (cc)
waiting_row (Over y v c) b x e u = absurd (cc)
waiting_row (Works y v c) b x e u = absurd (cc)
waiting_row (CallFailed a y c z) b x e u = absurd (cc)
waiting_row (CallSkipped a y) b x e u = absurd (cc)
waiting_row (Happened d) b x e u = absurd (cc)

-- a call that stands there is a line's that uses the transaction
calling_row : (r : Row) (c x : ℕ) (b : Bool) → stand_in r ≡ Calling c x b → (role_in r ≡ UsesTransaction b x) × (is_unfinished (outcome_in r) ≡ true)
calling_row (CallWaits a y d) c x b e = (let p : y ≡ x = cc in let q : a ≡ b = cc in λ i. UsesTransaction (q i) (p i), refl)
calling_row (Made d) c x b e = absurd (cc)
calling_row (AskWaits a k d) c x b e = absurd (cc)
calling_row (Begun k v d m) c x b e = absurd (cc)
calling_row (Timed k v d) c x b e = absurd (cc)
calling_row (AskFailed a k d y) c x b e = absurd (cc)
calling_row (AskSkipped a k) c x b e = absurd (cc)
calling_row (Acted y d) c x b e = absurd (cc)
calling_row (Over y v d) c x b e = absurd (cc)
calling_row (Works y v d) c x b e = absurd (cc)
calling_row (CallFailed a y d z) c x b e = absurd (cc)
calling_row (CallSkipped a y) c x b e = absurd (cc)
calling_row (Happened d) c x b e = absurd (cc)

uses_is : (r : Role) (x : ℕ) → uses r x ≡ true → (b : Bool) × (r ≡ UsesTransaction b x)
uses_is (UsesTransaction b y) x h = (b, let e : y ≡ x = grind (arith, nat_tests) in λ i. UsesTransaction b (e i))
uses_is MakesClient x h = absurd (cc)
uses_is (AsksTime b k) x h = absurd (cc)
uses_is NoCall x h = absurd (cc)

uses_it : (b : Bool) (x : ℕ) → uses (UsesTransaction b x) x ≡ true
uses_it b x = let q : nat_eq x x ≡ true = grind (arith, nat_tests) in q

to_bool : (a b : Bool) → (a ≡ true → b ≡ true) → (b ≡ true → a ≡ true) → a ≡ b
to_bool true b f g = sym (f refl)
to_bool false true f g = g refl
to_bool false false f g = refl

abbrev waits_for : ℕ → Bool
waits_for zero = false
waits_for (suc m) = true

has_waits : (m : ℕ) → waits_for m ≡ true → 1 ≤ m
has_waits zero h = absurd (cc)
has_waits (suc m) h = omega arith

some_waits : (m : ℕ) → 1 ≤ m → waits_for m ≡ true
some_waits zero h = absurd (omega arith)
some_waits (suc m) h = refl

free_waits : (c m : ℕ) → free (HasBegun c m) ≡ not (waits_for m)
free_waits c zero = refl
free_waits c (suc m) = refl

module _ (ls : List Line) (seen : ℕ → Outcome) (e : ℕ → ℕ) (st : ℕ → Stand) (crashed : List Bool) (was : AreRows ls seen e st crashed) where
  pub client_there : (k : ℕ) → line_at ls k ≡ Some lines.Client → IsClientAt (st k)
  client_there k h =
      let r = was.rows k lines.Client h in
      let m = made_row r.row r.is in
      record { client = m.0; is = sym r.at ∙ m.1 }

  lives_is : (k c : ℕ) → st k ≡ IsClient c → lives crashed (Some c) ≡ not (is_crashed seen ls k)
  lives_is k c h = ap not (was.woven.flags k c h)

  pub live_is : (k : ℕ) → line_at ls k ≡ Some lines.Client → lives crashed (client_at (st k)) ≡ not (is_crashed seen ls k)
  live_is k h = let c = client_there k h in ap (λ s. lives crashed (client_at s)) c.is ∙ lives_is k c.client c.is

  pub live_of : (n c : ℕ) → client_at (st n) ≡ Some c → lives crashed (client_at (st n)) ≡ not (is_crashed seen ls (client_of ls n))
  live_of n c h = ap (λ o. lives crashed o) h ∙ lives_is (client_of ls n) c (was.woven.clients n c h)

  pub busy_is : (x c m : ℕ) → st x ≡ HasBegun c m → is_busy seen ls x ≡ waits_for m
  busy_is x c m h = to_bool (is_busy seen ls x) (waits_for m) (λ b. opened_call (busy_waits seen ls x b)) (λ w. waits_busy seen ls x (shut (has_waits m w)))
    where
      opened_call : Waiting seen ls x → waits_for m ≡ true
      opened_call w =
          let r = was.rows w.number w.line w.there in
          let u = uses_is (role_of w.line) x w.asks in
          let s = waiting_row r.row u.0 x (r.is ∙ u.1) (subst (λ o. is_unfinished o ≡ true) (sym r.outcome) w.waits) in
          let at = was.woven.calling w.number s.0 x u.0 (sym r.at ∙ s.1) in
          let same : w.number ≡ m = begun_same s.0 c w.number m (sym at ∙ h) in
          some_waits m (subst (λ k. 1 ≤ k) same (line_range ls w.number w.line w.there).0)
        where
          begun_same : (a b k m : ℕ) → ◌≡◌ {A = Stand} (HasBegun a k) (HasBegun b m) → k ≡ m
          begun_same a b k m z = cc

      shut : 1 ≤ m → Waiting seen ls x
      shut one =
          let k = was.woven.called x c m one h in
          by (line_at ls m) refl k.0 k.1
        where
          by : (o : Option Line) → line_at ls m ≡ o → (b : Bool) → st m ≡ Calling c x b → Waiting seen ls x
          by None there b at = absurd (let z = (was.none m there).at in cc)
          by (Some l) there b at =
              let r = was.rows m l there in
              let d = calling_row r.row c x b (r.at ∙ at) in
              record { number = m; line = l; there = there; asks = subst (λ q. uses q x ≡ true) (sym d.0 ∙ r.is) (uses_it b x); waits = subst (λ o. is_unfinished o ≡ true) r.outcome d.1 }

  pub free_is : (b : Bool) (x : ℕ) → IsBegin (line_at ls x) → lives crashed (client_at (st x)) && free (st x) ≡ not (is_idle seen ls (UsesTransaction b x))
  free_is b x begins =
      let r = was.rows x begins.line begins.is in
      ap (λ s. lives crashed (client_at s) && free s) (sym r.at) ∙ by r.row (r.is ∙ begins.role) (sym r.at) ∙ ap (λ o. not (is_crashed seen ls (client_of ls x) || not (is_ok o) || is_busy seen ls x)) r.outcome
    where
      none : (z : Bool) (p q : Bool) → z && false ≡ not (p || true || q)
      none true true q = refl
      none true false q = refl
      none false true q = refl
      none false false q = refl

      both : (p q : Bool) → not p && not q ≡ not (p || false || q)
      both true q = refl
      both false q = refl

      by : (r : Row) → role_in r ≡ AsksTime true begins.client → st x ≡ stand_in r → lives crashed (client_at (stand_in r)) && free (stand_in r) ≡ not (is_crashed seen ls (client_of ls x) || not (is_ok (outcome_in r)) || is_busy seen ls x)
      by (AskWaits a k c) role at = none (lives crashed (Some c)) (is_crashed seen ls (client_of ls x)) (is_busy seen ls x)
      by (AskFailed a k c y) role at = none (lives crashed (Some c)) (is_crashed seen ls (client_of ls x)) (is_busy seen ls x)
      by (AskSkipped a k) role at = none false (is_crashed seen ls (client_of ls x)) (is_busy seen ls x)
      by (Begun k v c m) role at =
          let live = lives_is (client_of ls x) c (was.woven.clients x c (ap client_at at)) in
          (λ i. live i && free_waits c m i) ∙ (λ i. not (is_crashed seen ls (client_of ls x)) && not (sym (busy_is x c m at) i)) ∙ both (is_crashed seen ls (client_of ls x)) (is_busy seen ls x)
      by (Made c) role at = absurd (cc)
      by (Timed k v c) role at = absurd (cc)
      by (CallWaits a y c) role at = absurd (cc)
      by (Acted y c) role at = absurd (cc)
      by (Over y v c) role at = absurd (cc)
      by (Works y v c) role at = absurd (cc)
      by (CallFailed a y c z) role at = absurd (cc)
      by (CallSkipped a y) role at = absurd (cc)
      by (Happened d) role at = absurd (cc)
