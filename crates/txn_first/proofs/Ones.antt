-- There is one transaction at most: what follows for the rows and for what is out.
use Rattle.std.proofs.Common.{◌≡◌, ◌≢◌, ℕ, suc, ◌≤◌, ◌⊎◌, inl, inr, Bool, true, false, not, ◌&&◌, if◌then◌else◌, List, [], ◌∷◌, Option, Some, None, length, is_some, nat_eq, refl, sym, ap, ◌∙◌, subst, subst₂, arith}
use Rattle.std.proofs.lemmas.Bool.Decides.{nat_tests}
use Rattle.txn_kv.specs.declared.request.Request.{Request}
use Rattle.txn_kv.specs.declared.reply.Reply.{Reply}
use Rattle.txn_kv.specs.declared.ticket.Ticket.{Ticket}
use Rattle.txn_history.specs.Event.{Event, same_ticket, sent_request, taken_reply, is_out}
use Rattle.txn_history.specs.Event.Event.{Sent, Served, Took}
use Rattle.txn_script.specs.Lines.{line_at, why_after}
use Rattle.txn_script.specs.declared.line.Line.{Line}
use Rattle.txn_script.specs.declared.line.Line.TheVariants.{Blank, Client, Begin, Put, Commit, Deliver}
use Rattle.txn_report.specs.declared.outcome.Outcome.{Outcome}
use Rattle.txn_first.specs.declared.transaction.Transaction.{Transaction}
use Rattle.txn_first.specs.declared.transaction.Status.TheVariants.{Active}
use Rattle.txn_first.specs.declared.machine.Row.{Row}
use Rattle.txn_first.specs.declared.machine.Row.TheVariants.{Plain, Beginning, Running, Committing}
use Rattle.txn_first.specs.Lists.{row_at}
use Rattle.txn_first.specs.Script.{outcome_of}
use Rattle.txn_first.specs.Causes.{is_unfinished, status_of, writes_of}
use Rattle.txn_first.specs.Rowed.{AreGood, RunningFits, RowFits, IsBegun, Rowed, BeginAwaits, CommitAwaits, Awaited}
use Rattle.txn_first.proofs.Lists.{same_is, same_itself}
use Rattle.txn_first.proofs.Lines.{line_new, line_old, line_within, line_cases, one_begin, put_named, commit_named}

-- A call names a begin.

pub good_commit : (ls : List Line) (n y : ℕ) → AreGood ls → line_at ls n ≡ Some (Commit y) → (client : ℕ) × (line_at ls y ≡ Some (Begin client))
good_commit [] n y g e = absurd (cc)
good_commit (l ∷ ls) n y g e = elim (line_cases l ls n (Commit y) e) [
  | inl a ↦ older (commit_named ls y (subst (λ k. why_after ls k ≡ None) a.1 g.0))
  | inr a ↦ older (good_commit ls n y g.1 a.1)
]
  where
    older : ((client : ℕ) × (line_at ls y ≡ Some (Begin client))) → (client : ℕ) × (line_at (l ∷ ls) y ≡ Some (Begin client))
    older h = (h.0, line_old l ls y (λ s. let w = line_within ls y (Begin h.0) h.1 in let a = w.1 in omega arith) ∙ h.1)

pub good_put : (ls : List Line) (n y : ℕ) (k v : List ℕ) → AreGood ls → line_at ls n ≡ Some (Put y k v) → (client : ℕ) × (line_at ls y ≡ Some (Begin client))
good_put [] n y k v g e = absurd (cc)
good_put (l ∷ ls) n y k v g e = elim (line_cases l ls n (Put y k v) e) [
  | inl a ↦ older (put_named ls y k v (subst (λ j. why_after ls j ≡ None) a.1 g.0))
  | inr a ↦ older (good_put ls n y k v g.1 a.1)
]
  where
    older : ((client : ℕ) × (line_at ls y ≡ Some (Begin client))) → (client : ℕ) × (line_at (l ∷ ls) y ≡ Some (Begin client))
    older h = (h.0, line_old l ls y (λ s. let w = line_within ls y (Begin h.0) h.1 in let a = w.1 in omega arith) ∙ h.1)

-- nothing was asked of x before it is begun
pub status_none : (seen : ℕ → Outcome) (x : ℕ) (ls : List Line) → ((n y : ℕ) → line_at ls n ≡ Some (Commit y) → ⊥) → status_of seen x ls ≡ Active
status_none seen x [] h = refl
status_none seen x (l ∷ ls) h = at l (status_none seen x ls (λ n y e. h n y (line_old l ls n (λ s. let w = line_within ls n (Commit y) e in let a = w.1 in omega arith) ∙ e))) h
  where
    at : (k : Line) → status_of seen x ls ≡ Active → ((n y : ℕ) → line_at (k ∷ ls) n ≡ Some (Commit y) → ⊥) → status_of seen x (k ∷ ls) ≡ Active
    at Blank e g = e
    at Client e g = e
    at (Begin client) e g = e
    at (Put y k v) e g = e
    at (Commit y) e g = absurd (g (suc (length ls)) y (line_new (Commit y) ls))
    at (Deliver t) e g = e

pub writes_none : (seen : ℕ → Outcome) (x : ℕ) (ls : List Line) → ((n y : ℕ) (k v : List ℕ) → line_at ls n ≡ Some (Put y k v) → ⊥) → writes_of seen x ls ≡ []
writes_none seen x [] h = refl
writes_none seen x (l ∷ ls) h = at l (writes_none seen x ls (λ n y k v e. h n y k v (line_old l ls n (λ s. let w = line_within ls n (Put y k v) e in let a = w.1 in omega arith) ∙ e))) h
  where
    at : (j : Line) → writes_of seen x ls ≡ [] → ((n y : ℕ) (k v : List ℕ) → line_at (j ∷ ls) n ≡ Some (Put y k v) → ⊥) → writes_of seen x (j ∷ ls) ≡ []
    at Blank e g = e
    at Client e g = e
    at (Begin client) e g = e
    at (Put y k v) e g = absurd (g (suc (length ls)) y k v (line_new (Put y k v) ls))
    at (Commit y) e g = e
    at (Deliver t) e g = e

-- Rows.

-- a row that is neither a begin nor a transaction
abbrev pub OtherRow : List Line → ℕ → Row → Type 0
OtherRow lines n Plain = Unit {0}
OtherRow lines n Beginning = ⊥
OtherRow lines n (Running t) = ⊥
OtherRow lines n (Committing y) = line_at lines n ≡ Some (Commit y)

pub others_old : (lines : List Line) (rows : List Row) (outs : List Outcome) (x client n : ℕ) (r : Row) → AreGood lines → Rowed lines rows outs → line_at lines x ≡ Some (Begin client) → n ≢ x → row_at rows n ≡ Some r → OtherRow lines n r
others_old lines rows outs x client n Plain g f b apart e = tt
others_old lines rows outs x client n Beginning g f b apart e = let h = f.fits n Beginning e in apart (one_begin lines n x h.client client g h.line b)
others_old lines rows outs x client n (Running t) g f b apart e = let h = f.fits n (Running t) e in apart (one_begin lines n x h.client client g h.line b)
others_old lines rows outs x client n (Committing y) g f b apart e = f.fits n (Committing y) e

-- the rows fit where the one transaction does
pub rowed_one : (lines : List Line) (rows : List Row) (outs : List Outcome) (x client : ℕ) (t : Transaction) → AreGood lines → length rows ≡ length lines → line_at lines x ≡ Some (Begin client) → row_at rows x ≡ Some (Running t) → RunningFits lines rows outs x t → ((n : ℕ) (r : Row) → n ≢ x → row_at rows n ≡ Some r → OtherRow lines n r) → Rowed lines rows outs
rowed_one lines rows outs x client t g counted b at f others = record {
  counted = counted;
  fits = λ n r e. fits_at n r e (nat_eq n x) refl;
  begun = λ n c e. let s = one_begin lines n x c client g e b in subst (λ z. IsBegun z) (sym (ap (λ i. row_at rows i) s ∙ at)) tt;
}
  where
    other : (n : ℕ) (r : Row) → OtherRow lines n r → RowFits lines rows outs n r
    other n Plain o = tt
    other n Beginning o = absurd o
    other n (Running u) o = absurd o
    other n (Committing y) o = o

    fits_at : (n : ℕ) (r : Row) → row_at rows n ≡ Some r → (c : Bool) → nat_eq n x ≡ c → RowFits lines rows outs n r
    fits_at n r e true q =
        let s : n ≡ x = grind (arith, nat_tests) in
        let is : Some (Running t) ≡ Some r = sym at ∙ subst (λ i. row_at rows i ≡ Some r) s e in
        let same : Running t ≡ r = cc in
        subst₂ (λ i k. RowFits lines rows outs i k) (sym s) same f
    fits_at n r e false q = let apart : n ≢ x = grind (arith, nat_tests) in other n r (others n r apart e)

-- What is out.

-- nothing is
abbrev pub NoneOut : List Event → Type 0
NoneOut es = (u : Ticket) → is_out es u ≡ true → ⊥

pub no_begin_none_out : (es : List Event) (lines : List Line) (rows : List Row) (outs : List Outcome) → Rowed lines rows outs → Awaited es lines rows outs → ((n client : ℕ) → line_at lines n ≡ Some (Begin client) → ⊥) → NoneOut es
no_begin_none_out es lines rows outs f a none u e = elim (a.known u e) [
  | inl b ↦ (let h = f.fits u.line Beginning b.row in none u.line h.client h.line)
  | inr b ↦ (let h = f.fits b.x (Running b.t) b.running in none b.x h.client h.line)
]

same_row : (t u : Transaction) → ◌≡◌ {A = Option Row} (Some (Running t)) (Some (Running u)) → t ≡ u
same_row t u e = cc

-- nothing is out while the transaction has no call open
pub idle_none_out : (es : List Event) (lines : List Line) (rows : List Row) (outs : List Outcome) (x : ℕ) (t : Transaction) → AreGood lines → Rowed lines rows outs → Awaited es lines rows outs → row_at rows x ≡ Some (Running t) → t.call ≡ None → NoneOut es
idle_none_out es lines rows outs x t g f a at idle u e = elim (a.known u e) [
  | inl b ↦ (
      let h = f.fits u.line Beginning b.row in
      let k = f.fits x (Running t) at in
      let s = one_begin lines u.line x h.client k.client g h.line k.line in
      let v = subst (λ i. row_at rows i ≡ Some Beginning) s b.row in
      absurd (cc)
      )
  | inr b ↦ (
      let h = f.fits b.x (Running b.t) b.running in
      let k = f.fits x (Running t) at in
      let s = one_begin lines b.x x h.client k.client g h.line k.line in
      let same = same_row b.t t (sym (subst (λ i. row_at rows i ≡ Some (Running b.t)) s b.running) ∙ at) in
      let c : t.call ≡ Some b.call = ap (λ z. z.call) (sym same) ∙ b.calls in
      absurd (cc)
      )
]

-- no line is unfinished while nothing is out
pub none_unfinished : (es : List Event) (lines : List Line) (rows : List Row) (outs : List Outcome) → Awaited es lines rows outs → NoneOut es → (n : ℕ) → 1 ≤ n → n ≤ length lines → is_unfinished (outcome_of outs n) ≡ true → ⊥
none_unfinished es lines rows outs a none n first last e = let h = a.owed n first last e in none h.ticket h.out

pub awaited_none : (es : List Event) (lines : List Line) (rows : List Row) (outs : List Outcome) → NoneOut es → ((n : ℕ) → 1 ≤ n → n ≤ length lines → is_unfinished (outcome_of outs n) ≡ true → ⊥) → Awaited es lines rows outs
awaited_none es lines rows outs none over = record {
  known = λ u e. absurd (none u e);
  one = λ t u e f. absurd (none t e);
  owed = λ n first last e. absurd (over n first last e);
}

-- A request is sent while nothing is out.
module _ (es : List Event) (t : Ticket) (r : Request) (fresh : sent_request es t ≡ None) (untaken : is_some (taken_reply es t) ≡ false) (none : NoneOut es) where
  pub sent_is : sent_request (Sent t r ∷ es) t ≡ Some r
  sent_is = ap (λ (b : Bool). if b then Some r else sent_request es t) (same_itself t)

  pub sent_out : is_out (Sent t r ∷ es) t ≡ true
  sent_out = rw (sent_is, untaken) refl

  pub sent_alone : (u : Ticket) → is_out (Sent t r ∷ es) u ≡ true → t ≡ u
  sent_alone u e = by_test (same_ticket t u) refl
    where
      by_test : (b : Bool) → same_ticket t u ≡ b → t ≡ u
      by_test true f = same_is t u f
      by_test false f = absurd (none u (sym (ap (λ (b : Bool). is_some (if b then Some r else sent_request es u) && not (is_some (taken_reply es u))) f) ∙ e))

  pub awaited_sent : (lines : List Line) (rows : List Row) (outs : List Outcome) → t.beat ≡ false → (BeginAwaits (Sent t r ∷ es) rows t ⊎ CommitAwaits (Sent t r ∷ es) rows t) → ((n : ℕ) → 1 ≤ n → n ≤ length lines → is_unfinished (outcome_of outs n) ≡ true → n ≡ t.line) → Awaited (Sent t r ∷ es) lines rows outs
  awaited_sent lines rows outs plain waits only = record {
    known = λ u e. subst (λ z. BeginAwaits (Sent t r ∷ es) rows z ⊎ CommitAwaits (Sent t r ∷ es) rows z) (sent_alone u e) waits;
    one = λ u v e f. sym (sent_alone u e) ∙ sent_alone v f;
    owed = λ n first last e. record { ticket = t; own = sym (only n first last e); no_beat = plain; out = sent_out };
  }

-- the one request that was out is taken
pub taken_none_out : (es : List Event) (t : Ticket) (r : Request) (o : Reply) → is_out es t ≡ true → ((u v : Ticket) → is_out es u ≡ true → is_out es v ≡ true → u ≡ v) → NoneOut (Took t r o ∷ Served t r o ∷ es)
taken_none_out es t r o out one u e = by_test (same_ticket t u) refl
  where
    taken : (b : Bool) → b && false ≡ true → ⊥
    taken true f = cc
    taken false f = cc

    by_test : (b : Bool) → same_ticket t u ≡ b → ⊥
    by_test true f = taken (is_some (sent_request es u)) (sym (ap (λ (b : Bool). is_some (sent_request es u) && not (is_some (if b then Some o else taken_reply es u))) f) ∙ e)
    by_test false f =
        let still : is_out es u ≡ true = sym (ap (λ (b : Bool). is_some (sent_request es u) && not (is_some (if b then Some o else taken_reply es u))) f) ∙ e in
        let s = one t u out still in
        let g : same_ticket t u ≡ true = subst (λ z. same_ticket t z ≡ true) s (same_itself t) in
        absurd (let z = sym f ∙ g in cc)
