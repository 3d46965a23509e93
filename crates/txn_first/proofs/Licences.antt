-- What each change of the lists keeps of the licences.
use Rattle.std.proofs.Common.{◌≡◌, ◌≢◌, ℕ, zero, suc, ◌-◌, inl, inr, Bool, true, false, ◌||◌, List, [], ◌∷◌, ◌++◌, Option, Some, get_or, set, nat_eq, refl, sym, ap, ◌∙◌, subst, arith}
use Rattle.std.proofs.lemmas.Bool.Decides.{nat_tests}
use Rattle.txn_kv.specs.declared.ticket.Ticket.{Ticket}
use Rattle.txn_kv.specs.declared.request.Request.{Request}
use Rattle.txn_kv.specs.declared.request.Request.TheVariants.{Commit}
use Rattle.txn_kv.specs.declared.request.commits.CommitRequest.{CommitRequest}
use Rattle.txn_kv.specs.declared.reply.Reply.{Reply}
use Rattle.txn_history.specs.Event.{Event, sent_request}
use Rattle.txn_history.specs.Event.Event.{Sent, Served, Took}
use Rattle.txn_history.specs.Licence.{WasGiven, IsLicensed}
use Rattle.txn_history.specs.Plan.{Key}
use Rattle.txn_model.specs.Table.{table}
use Rattle.txn_law.specs.Lone.{lone_plan}
use Rattle.txn_law.specs.Run.{store_after, IsRoomy, IsUnserved, IsUnused, IsCovered}
use Rattle.txn_law.proofs.Tickets.{was_sent}
use Rattle.txn_report.specs.declared.outcome.Outcome.{Outcome}
use Rattle.txn_report.specs.declared.outcome.Outcome.TheVariants.{Ok, Unfinished}
use Rattle.txn_report.specs.declared.outcome.Payload.TheVariants.{Commit as Committed_at}
use Rattle.txn_first.specs.declared.transaction.Transaction.{Transaction}
use Rattle.txn_first.specs.declared.transaction.Put.{Put}
use Rattle.txn_first.specs.declared.transaction.CommitCall.{CommitCall}
use Rattle.txn_first.specs.declared.transaction.Status.{Status}
use Rattle.txn_first.specs.declared.transaction.Status.TheVariants.{Active, StartedCommit, Committed}
use Rattle.txn_first.specs.declared.machine.Row.{Row}
use Rattle.txn_first.specs.declared.machine.Row.TheVariants.{Beginning, Running}
use Rattle.txn_first.specs.Lists.{row_at}
use Rattle.txn_first.specs.Script.{outcome_of}
use Rattle.txn_first.specs.Causes.{is_commit_at, allows_commit}
use Rattle.txn_first.specs.Licensed.{Agrees, is_committing, is_committed, has_committed, WasCommitted, Licensed}
use Rattle.txn_first.proofs.Lines.{row_within, row_old, row_cases, row_same, row_other, row_put}

-- Rows.

pub same_row : (a b : Row) → ◌≡◌ {A = Option Row} (Some a) (Some b) → a ≡ b
same_row a b e = cc

-- the puts of transactions that have begun to commit stay
abbrev pub Settles : List Row → List Row → Type 0
Settles rows rows' = (y : ℕ) (t : Transaction) (p : Put) → row_at rows y ≡ Some (Running t) → t.put ≡ Some p → t.status ≢ Active → (u : Transaction) × (row_at rows' y ≡ Some (Running u)) × (u.put ≡ Some p) × (u.status ≢ Active)

-- transactions that have sent their Commit stay
abbrev pub Stays : List Row → List Row → Type 0
Stays rows rows' = (y : ℕ) (t : Transaction) → row_at rows y ≡ Some (Running t) → has_committed t ≡ true → row_at rows' y ≡ Some (Running t)

-- and each transaction had its start
abbrev pub Starts : List Row → List Row → Type 0
Starts rows rows' = (y : ℕ) (u : Transaction) → row_at rows' y ≡ Some (Running u) → (t : Transaction) × (row_at rows y ≡ Some (Running t)) × (u.start ≡ t.start)

pub record Keeps (rows rows' : List Row) : Type 0 where
  pub settles : Settles rows rows'
  pub stays : Stays rows rows'

pub keeps_then : (a b c : List Row) → Keeps a b → Keeps b c → Keeps a c
keeps_then a b c f g = record {
  settles = λ y t p e q s. let w = f.settles y t p e q s in g.settles y w.0 p w.1 w.2 w.3;
  stays = λ y t e s. g.stays y t (f.stays y t e s) s;
}

pub starts_then : (a b c : List Row) → Starts a b → Starts b c → Starts a c
starts_then a b c f g y u e = let w = g y u e in let z = f y w.0 w.1 in (z.0, z.1, w.2 ∙ z.2)

pub row_pushed : (rows : List Row) (r k : Row) (n : ℕ) → row_at rows n ≡ Some k → row_at (rows ++ r ∷ []) n ≡ Some k
row_pushed rows r k n e = let w = row_within rows n k e in let a = w.1 in row_old rows r n (λ s. omega arith) ∙ e

pub keeps_push : (rows : List Row) (r : Row) → Keeps rows (rows ++ r ∷ [])
keeps_push rows r = record {
  settles = λ y t p e q s. (t, row_pushed rows r (Running t) y e, q, s);
  stays = λ y t e s. row_pushed rows r (Running t) y e;
}

pub starts_push : (rows : List Row) (r : Row) → ((u : Transaction) → r ≡ Running u → ⊥) → Starts rows (rows ++ r ∷ [])
starts_push rows r n y u e = elim (row_cases rows r y (Running u) e) [
  | inl a ↦ absurd (n u a.1)
  | inr a ↦ (u, a.1, refl)
]

pub settles_then : (a b c : List Row) → Settles a b → Settles b c → Settles a c
settles_then a b c f g y t p e q s = let w = f y t p e q s in g y w.0 p w.1 w.2 w.3

at_same : (rows : List Row) (x y : ℕ) (k : Row) (t : Transaction) → row_at rows x ≡ Some k → row_at rows y ≡ Some (Running t) → y ≡ x → k ≡ Running t
at_same rows x y k t at e is = same_row k (Running t) (sym at ∙ subst (λ i. row_at rows i ≡ Some (Running t)) is e)

pub settles_set : (rows : List Row) (x : ℕ) (k r : Row) → row_at rows x ≡ Some k
    → ((t : Transaction) (p : Put) → k ≡ Running t → t.put ≡ Some p → t.status ≢ Active → (u : Transaction) × (r ≡ Running u) × (u.put ≡ Some p) × (u.status ≢ Active)) → Settles rows (set rows (x - 1) r)
settles_set rows x k r at settled y t p e q s = by_place (nat_eq y x) refl
  where
    by_place : (b : Bool) → nat_eq y x ≡ b → (u : Transaction) × (row_at (set rows (x - 1) r) y ≡ Some (Running u)) × (u.put ≡ Some p) × (u.status ≢ Active)
    by_place true f =
        let is : y ≡ x = grind (arith, nat_tests) in
        let w = settled t p (at_same rows x y k t at e is) q s in
        (w.0, subst (λ i. row_at (set rows (x - 1) r) i ≡ Some (Running w.0)) (sym is) (row_same rows x r k at ∙ ap (λ z. Some z) w.1), w.2, w.3)
    by_place false f = let apart : y ≢ x = grind (arith, nat_tests) in (t, row_other rows x y r (row_within rows x k at).0 apart ∙ e, q, s)

pub stays_set : (rows : List Row) (x : ℕ) (k r : Row) → row_at rows x ≡ Some k → ((t : Transaction) → k ≡ Running t → has_committed t ≡ false) → Stays rows (set rows (x - 1) r)
stays_set rows x k r at unsent y t e s = by_place (nat_eq y x) refl
  where
    by_place : (b : Bool) → nat_eq y x ≡ b → row_at (set rows (x - 1) r) y ≡ Some (Running t)
    by_place true f =
        let is : y ≡ x = grind (arith, nat_tests) in
        absurd (let z : true ≡ false = sym s ∙ unsent t (at_same rows x y k t at e is) in cc)
    by_place false f = let apart : y ≢ x = grind (arith, nat_tests) in row_other rows x y r (row_within rows x k at).0 apart ∙ e

pub running_is : (t u : Transaction) → Running t ≡ Running u → t ≡ u
running_is t u e = cc

-- a transaction goes on, with the put that it has
pub settles_on : (rows : List Row) (x : ℕ) (t u : Transaction) → row_at rows x ≡ Some (Running t) → u.put ≡ t.put → u.status ≢ Active → Settles rows (set rows (x - 1) (Running u))
settles_on rows x t u at put begun = settles_set rows x (Running t) (Running u) at (λ w p e q s. (u, refl, put ∙ ap (λ z. z.put) (running_is t w e) ∙ q, begun))

pub keeps_on : (rows : List Row) (x : ℕ) (t u : Transaction) → row_at rows x ≡ Some (Running t) → u.put ≡ t.put → u.status ≢ Active → has_committed t ≡ false → Keeps rows (set rows (x - 1) (Running u))
keeps_on rows x t u at put begun unsent = record {
  settles = settles_on rows x t u at put begun;
  stays = stays_set rows x (Running t) (Running u) at (λ w e. subst (λ z. has_committed z ≡ false) (running_is t w e) unsent);
}

-- a transaction writes
pub keeps_put : (rows : List Row) (x : ℕ) (t u : Transaction) → row_at rows x ≡ Some (Running t) → t.status ≡ Active → has_committed t ≡ false → Keeps rows (set rows (x - 1) (Running u))
keeps_put rows x t u at active unsent = record {
  settles = settles_set rows x (Running t) (Running u) at (λ w p e q s. absurd (s (ap (λ z. z.status) (sym (running_is t w e)) ∙ active)));
  stays = stays_set rows x (Running t) (Running u) at (λ w e. subst (λ z. has_committed z ≡ false) (running_is t w e) unsent);
}

-- a transaction begins
pub keeps_begun : (rows : List Row) (x : ℕ) (u : Transaction) → row_at rows x ≡ Some Beginning → Keeps rows (set rows (x - 1) (Running u))
keeps_begun rows x u at = record {
  settles = settles_set rows x Beginning (Running u) at (λ w p e q s. absurd (cc));
  stays = stays_set rows x Beginning (Running u) at (λ w e. absurd (cc));
}

pub starts_set : (rows : List Row) (x : ℕ) (t u : Transaction) → row_at rows x ≡ Some (Running t) → u.start ≡ t.start → Starts rows (set rows (x - 1) (Running u))
starts_set rows x t u at start y w e = elim (row_put rows x y (Running u) (Running w) (Running t) at e) [
  | inl a ↦ (t, subst (λ i. row_at rows i ≡ Some (Running t)) (sym a.0) at, ap (λ z. z.start) (sym (running_is u w a.1)) ∙ start)
  | inr a ↦ (w, a.1, refl)
]

-- Outcomes.

pub pushed_commit : (outs : List Outcome) (o : Outcome) (n c : ℕ) → is_commit_at o ≡ false → outcome_of (outs ++ o ∷ []) n ≡ Ok (Committed_at (Some c)) → outcome_of outs n ≡ Ok (Committed_at (Some c))
pushed_commit outs o zero c p e = e
pushed_commit outs o (suc i) c p e = at outs i e
  where
    at : (xs : List Outcome) (j : ℕ) → get_or (xs ++ o ∷ []) j Unfinished ≡ Ok (Committed_at (Some c)) → get_or xs j Unfinished ≡ Ok (Committed_at (Some c))
    at [] zero h = absurd (let z : is_commit_at o ≡ true = ap is_commit_at h in cc)
    at [] (suc j) h = h
    at (x ∷ xs) zero h = h
    at (x ∷ xs) (suc j) h = at xs j h

pub set_commit : (outs : List Outcome) (i : ℕ) (o : Outcome) (n c : ℕ) → is_commit_at o ≡ false → outcome_of (set outs i o) n ≡ Ok (Committed_at (Some c)) → outcome_of outs n ≡ Ok (Committed_at (Some c))
set_commit outs i o zero c p e = e
set_commit outs i o (suc j) c p e = at outs i j e
  where
    at : (xs : List Outcome) (i j : ℕ) → get_or (set xs i o) j Unfinished ≡ Ok (Committed_at (Some c)) → get_or xs j Unfinished ≡ Ok (Committed_at (Some c))
    at [] i j h = h
    at (x ∷ xs) zero zero h = absurd (let z : is_commit_at o ≡ true = ap is_commit_at h in cc)
    at (x ∷ xs) zero (suc j) h = h
    at (x ∷ xs) (suc i) zero h = h
    at (x ∷ xs) (suc i) (suc j) h = at xs i j h

-- Events.

pub given_more : (es : List Event) (e : Event) (s : ℕ) → WasGiven es s → WasGiven (e ∷ es) s
given_more es e s w = (w.0, w.1, w.2, w.3, inr w.4, w.5, w.6)

committed_more : (es : List Event) (e : Event) (rows : List Row) (c : ℕ) → WasCommitted es rows c → WasCommitted (e ∷ es) rows c
committed_more es e rows c h =
    let w = h.told in
    record { x = h.x; t = h.t; put = h.put; running = h.running; puts = h.puts; over = h.over; told = (w.0, w.1, w.2, inr w.3, w.4, w.5, w.6, w.7) }

pub has_by_status : (t : Transaction) → t.status ≡ Committed → has_committed t ≡ true
has_by_status t e = ap (λ s. is_committing t.call || is_committed s) e ∙ or_true (is_committing t.call)
  where
    or_true : (b : Bool) → b || true ≡ true
    or_true true = refl
    or_true false = refl

-- neither its call nor its status has it committed
pub not_committed : (t : Transaction) (c : Option CommitCall) (st : Status) → t.call ≡ c → t.status ≡ st → is_committing c ≡ false → is_committed st ≡ false → has_committed t ≡ false
not_committed t c st e f a b = ap (λ z. z || is_committed t.status) (ap is_committing e ∙ a) ∙ ap is_committed f ∙ b

pub allowed_open : (st : Status) → allows_commit st ≡ true → is_committed st ≡ false
allowed_open Active e = refl
allowed_open StartedCommit e = refl
allowed_open Committed e = absurd (cc)

pub agrees_back : (rows rows' : List Row) (k : Key) (v : List ℕ) → Settles rows rows' → Agrees rows' k v → Agrees rows k v
agrees_back rows rows' k v f a x t p e q s = let w = f x t p e q s in a x w.0 p w.1 w.2 w.3

pub was_kept : (es : List Event) (rows rows' : List Row) → Stays rows rows' → (c : ℕ) → WasCommitted es rows c → WasCommitted es rows' c
was_kept es rows rows' stays c h = record { x = h.x; t = h.t; put = h.put; running = stays h.x h.t h.running (has_by_status h.t h.over); puts = h.puts; over = h.over; told = h.told }

-- the rows and the outcomes go on
pub licensed_rows : (es : List Event) (rows rows' : List Row) (outs outs' : List Outcome) → Keeps rows rows' → Starts rows rows' → ((n c : ℕ) → outcome_of outs' n ≡ Ok (Committed_at (Some c)) → outcome_of outs n ≡ Ok (Committed_at (Some c))) → Licensed es rows outs → Licensed es rows' outs'
licensed_rows es rows rows' outs outs' keeps starts old s = record {
  run = λ k v a. s.run k v (agrees_back rows rows' k v keeps.settles a);
  given = λ x u e. let w = starts x u e in subst (λ n. WasGiven es n) (sym w.2) (s.given x w.0 w.1);
  owned = λ u r h. let w = s.owned u r h in (w.0, w.1, keeps.stays w.0 w.1 w.2 w.3, w.3);
  answered = λ n c e. was_kept es rows rows' keeps.stays c (s.answered n c (old n c e));
}

sent_same : (t u : Ticket) (q r : Request) → Sent t q ≡ Sent u r → q ≡ r
sent_same t u q r e = cc

-- a request is sent
pub licensed_sent : (es : List Event) (rows : List Row) (outs : List Outcome) (t : Ticket) (q : Request) → IsUnused es t → IsCovered q
    → ((k : Key) (v : List ℕ) → Agrees rows k v → IsLicensed (λ s. lone_plan k v) es q)
    → ((r : CommitRequest) → q ≡ Commit r → (x : ℕ) × (u : Transaction) × (row_at rows x ≡ Some (Running u)) × (has_committed u ≡ true))
    → Licensed es rows outs → Licensed (Sent t q ∷ es) rows outs
licensed_sent es rows outs t q unused covered licence owner s = record {
  run = λ k v a. (unused, (covered, licence k v a), s.run k v a);
  given = λ x u e. given_more es (Sent t q) u.start (s.given x u e);
  owned = λ u r h. elim h [ inl e ↦ owner r (sent_same t u q (Commit r) e) | inr g ↦ s.owned u r g ];
  answered = λ n c e. committed_more es (Sent t q) rows c (s.answered n c e);
}

-- a request is handled, and its reply is taken
pub licensed_delivered : (es : List Event) (rows : List Row) (outs : List Outcome) (t : Ticket) (r : Request) (o : Reply) → sent_request es t ≡ Some r → o ≡ (table (store_after es) r).reply → IsUnserved es t → IsRoomy (store_after es) → Licensed es rows outs → Licensed (Took t r o ∷ Served t r o ∷ es) rows outs
licensed_delivered es rows outs t r o sent gave unserved room s = record {
  run = λ k v a. (inl (inl refl), tt, ((was_sent es t r sent, gave, unserved, room), tt, s.run k v a));
  given = λ x u e. given_more (Served t r o ∷ es) (Took t r o) u.start (given_more es (Served t r o) u.start (s.given x u e));
  owned = λ u q h. elim h [ inl e ↦ absurd (cc) | inr g ↦ elim g [ inl e ↦ absurd (cc) | inr z ↦ s.owned u q z ] ];
  answered = λ n c e. committed_more (Served t r o ∷ es) (Took t r o) rows c (committed_more es (Served t r o) rows c (s.answered n c e));
}
