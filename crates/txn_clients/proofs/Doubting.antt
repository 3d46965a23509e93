-- Whether a transaction is in doubt, and that a call of it that fails says so.
use Rattle.std.proofs.Common.{◌≡◌, ◌⊎◌, inl, inr, ℕ, zero, suc, ◌-◌, ◌≤◌, Bool, true, false, List, [], ◌∷◌, Option, Some, None, refl, sym, ap, ◌∙◌, subst, ◌≢◌, ◌++◌, append_assoc}
use Rattle.txn_kv.specs.Timestamp.{version_of}
use Rattle.txn_kv.specs.declared.errors.Error.{Error}
use Rattle.txn_kv.specs.declared.reply.commits.CommitResponse.{CommitResponse}
use Rattle.txn_kv.specs.declared.reply.Reply.{Reply}
use Rattle.txn_kv.specs.declared.reply.Reply.TheVariants as replies
use Rattle.txn_kv.specs.declared.request.commits.CommitRequest.{CommitRequest}
use Rattle.txn_kv.specs.declared.request.commits.PrewriteRequest.{PrewriteRequest}
use Rattle.txn_kv.specs.declared.request.Request.{Request}
use Rattle.txn_kv.specs.declared.request.Request.TheVariants.{Commit, Prewrite}
use Rattle.txn_kv.specs.declared.ticket.Ticket.{Ticket}
use Rattle.txn_kv.specs.ErrorView.{view_of}
use Rattle.txn_kv.specs.ErrorView.ErrorView.{undetermined as not_known}
use Rattle.txn_kv.specs.declared.errors.Error.TheVariants.{GrpcAPI}
use Rattle.txn_history.specs.Event.{Event, Has}
use Rattle.txn_history.specs.Event.Event.{Lost, Sent, Took, Answered, Asked, Began}
use Rattle.txn_history.specs.Licence.{PrimaryCommitted}
use Rattle.txn_history.specs.Plan.{Key, Plan, has_key}
use Rattle.txn_history.specs.Posted.{Within, Within-refl}
use Rattle.txn_law.specs.Run.{IsAllowed, IsPossible, IsRun}
use Rattle.txn_commit.specs.Parts.{parts_of}
use Rattle.txn_commit.specs.Sending.{plan_of}
use Rattle.txn_commit.specs.declared.commit_parts.CommitParts.{CommitParts}
use Rattle.txn_commit.proofs.Keys.{has_only, only}
use Rattle.txn_commit.proofs.Sending.{settled_refused}
use Rattle.txn_core.specs.Status.{allows_data}
use Rattle.txn_core.specs.Transaction.{Standing, or_refused, refused_unless}
use Rattle.txn_report.specs.declared.outcome.Outcome.{Outcome}
use Rattle.txn_report.specs.declared.outcome.Outcome.TheVariants as outcomes
use Rattle.txn_report.specs.declared.outcome.Payload.TheVariants as payloads
use Rattle.txn_side.specs.Account.{is_undetermined}
use Rattle.txn_side.specs.Arising.{with_postings}
use Rattle.txn_side.specs.Doubt.{HasLostCommit, IsInDoubt, IsRefusal, SaysDoubt, CallOf, NamesFirst, WasWritten, itself}
use Rattle.txn_side.specs.Saying.{SpeaksOf}
use Rattle.txn_side.specs.declared.turn.Posting.{Posting}
use Rattle.txn_side.specs.declared.turn.Posting.TheVariants.{Send, Sleep}
use Rattle.txn_trace.specs.Seeing.{seen}
use Rattle.txn_trace.proofs.Seen.{had_seen, seen_had}
use Rattle.txn_clients.specs.Arising.{BeganAt, EndSpeaks, HasPlan, HavePlans, HoldsAt, IsCommittedSo, HasLostOne, IsDoubted, IsSettled, IsUndoubted, KeepRight, SpeaksRight, SpeaksRightAt, IsNamedBy, NamesLost}
use Rattle.txn_clients.specs.Clients.{row_at}
use Rattle.txn_clients.specs.Rows.{with_waits}
use Rattle.txn_clients.specs.declared.row.Row.{Row}
use Rattle.txn_clients.specs.declared.row.Row.TheVariants as row
use Rattle.txn_clients.proofs.Taking.{no_flag}
use Rattle.txn_clients.proofs.Telling.{hears_own}
use Rattle.txn_clients.specs.First.{Front, IsFirstLostOfPrimary, first_front}
use Rattle.txn_clients.proofs.Marking.{first_older, first_seen, postings_front}

-- Refusals

some_same : {X : Type 0} {a b : X} → Some a ≡ Some b → a ≡ b
some_same e = cc

none_some : {X : Type 0} (x : X) → None ≡ Some x → ⊥
none_some x e = cc

pub unless_refuses : (b : Bool) (f e : Error) → IsRefusal f → refused_unless b f ≡ Some e → IsRefusal e
unless_refuses true f e r h = absurd (none_some e h)
unless_refuses false f e r h = subst IsRefusal (some_same h) r

pub or_refuses : (o later : Option Error) (e : Error) → ((d : Error) → o ≡ Some d → IsRefusal d) → ((d : Error) → later ≡ Some d → IsRefusal d) → or_refused o later ≡ Some e → IsRefusal e
or_refuses None later e first then h = then e h
or_refuses (Some d) later e first then h = first e h

-- What a run tells of what was sent

-- what was lost was sent
lost_sent : (plans : ℕ → Plan) (h : List Event) (t : Ticket) (r : Request) → IsRun plans h → Has h (Lost t r) → Has h (Sent t r)
lost_sent plans [] t r run i = absurd i
lost_sent plans (e ∷ h) t r run (inl f) = let was : IsPossible h (Lost t r) = subst (IsPossible h) f run.0 in inr was
lost_sent plans (e ∷ h) t r run (inr i) = inr (lost_sent plans h t r run.2 i)

empty_front : (newer older : List Event) (e : Event) → ◌≡◌ {A = List Event} [] (newer ++ older) → Has older e → ⊥
empty_front [] older e same i = subst (λ g. Has g e) (sym same) i
empty_front (x ∷ newer) older e same i = cc

tail_same : (x y : Event) (a b : List Event) → x ∷ a ≡ y ∷ b → a ≡ b
tail_same x y a b e = cc

-- and shown before
suffix_sent : (plans : ℕ → Plan) (h newer older : List Event) (t : Ticket) (r : Request) → IsRun plans h → seen h ≡ newer ++ older → Has older (Lost t r) → Has older (Sent t r)
suffix_sent plans [] newer older t r run same i = absurd (empty_front newer older (Lost t r) same i)
suffix_sent plans (Began u ms ∷ h) newer older t r run same i = suffix_sent plans h newer older t r run.2 same i
suffix_sent plans (Asked a ∷ h) newer older t r run same i = suffix_sent plans h newer older t r run.2 same i
suffix_sent plans (Answered a x ∷ h) newer older t r run same i = suffix_sent plans h newer older t r run.2 same i
suffix_sent plans (x ∷ h) [] older t r run same i =
    let sent : Has h (Sent t r) = elim (subst (λ g. Has g (Lost t r)) (sym same) i) [
      | inl f ↦ subst (IsPossible h) f run.0
      | inr j ↦ (let was = seen_had h (Lost t r) j in lost_sent plans h t r run.2 was.0)
    ] in
    subst (λ g. Has g (Sent t r)) same (inr (had_seen h (Sent t r) tt sent))
suffix_sent plans (x ∷ h) (y ∷ newer) older t r run same i = suffix_sent plans h newer older t r run.2 (tail_same x y (seen h) (newer ++ older) same) i

-- a Prewrite names the primary of the plan of its start
pub prewrite_names : (plans : ℕ → Plan) (h : List Event) (t : Ticket) (r : PrewriteRequest) → IsRun plans h → Has h (Sent t (Prewrite r)) → r.primary_lock ≡ (plans r.start_version).primary
prewrite_names plans [] t r run i = absurd i
prewrite_names plans (e ∷ h) t r run (inl f) = let may : IsAllowed plans h (Sent t (Prewrite r)) = subst (IsAllowed plans h) f run.1 in may.1.primary
prewrite_names plans (e ∷ h) t r run (inr i) = prewrite_names plans h t r run.2 i

-- Nothing that is posted is lost by that.

lost_before : (ps : List Posting) (h : List Event) (t : Ticket) (r : Request) → Has (with_postings ps h) (Lost t r) → Has h (Lost t r)
lost_before [] h t r i = i
lost_before (Send u to q askers ∷ ps) h t r i = elim (lost_before ps (Sent u q ∷ h) t r i) [ inl e ↦ absurd (cc) | inr j ↦ j ]
lost_before (Sleep u ∷ ps) h t r i = lost_before ps h t r i

pub shown_front : (ps : List Posting) (h later : List Event) → seen later ≡ with_postings ps (seen h) → Front (seen h) (seen later)
shown_front ps h later shows = let f = postings_front ps (seen h) in (f.0, shows ∙ f.1)

pub none_lost : (ps : List Posting) (h later : List Event) → seen later ≡ with_postings ps (seen h) → (t : Ticket) (r : Request) → Has later (Lost t r) → Has h (Lost t r)
none_lost ps h later shows t r i =
    let before = lost_before ps (seen h) t r (subst (λ g. Has g (Lost t r)) shows (had_seen later (Lost t r) tt i)) in
    let was = seen_had h (Lost t r) before in
    was.0

-- A history in which nothing has happened but that a Commit of one key was answered without error: what is committed by it has this
-- start, and this primary.

abbrev alone : ℕ → Key → CommitRequest
alone s k = record { context = None; keys = k ∷ []; start_version = s; commit_version = 0 }

abbrev fine : CommitResponse
fine = record { region_error = None; error = None; commit_version = 0 }

abbrev committed_alone : ℕ → Key → List Event
committed_alone s k = Took (record { line = 0; beat = false; number = 0 }) (Commit (alone s k)) (replies.Commit fine) ∷ []

took_same : (t u : Ticket) (q r : CommitRequest) (o p : Reply) → Took t (Commit q) o ≡ Took u (Commit r) p → q ≡ r
took_same t u q r o p e = cc

named_alone : (s c v : ℕ) (k : Key) (plan : Plan) → PrimaryCommitted plan (committed_alone s k) c v → (c ≡ s) × (plan.primary ≡ k)
named_alone s c v k plan (t, r, o, inl taken, without, start, at, primary) =
    let same = took_same _ t (alone s k) r (replies.Commit fine) (replies.Commit o) taken in
    (sym start ∙ ap (λ (q : CommitRequest). q.start_version) (sym same), only k plan.primary (subst (λ (q : CommitRequest). has_key q.keys plan.primary ≡ true) (sym same) primary))
named_alone s c v k plan (t, r, o, inr none, without, start, at, primary) = absurd none

-- What is right of a row

module _ {P : Type 0} where
  -- of what a settled transaction has sent each Commit of its primary was refused
  settled_undoubted : (plans : ℕ → Plan) (h : List Event) (c n : ℕ) (t : Standing P) → IsRun plans h → IsSettled t h → IsUndoubted {P = P} h (row.Begun c t n)
  settled_undoubted plans h c n t run s = (
    s.parts,
    s.closed,
    s.whole,
    λ u r lost commits.
        let refused = settled_refused (plan_of s.parts) (version_of t.start) t.commits h s.none s.knows u r (lost_sent plans h u (Commit r) run lost) commits in
        (refused.0, refused.1),
  )

  -- what it names a run shows
  named_seen : (t : Standing P) (h : List Event) (e : Error) → NamesLost t h e → NamesLost t (seen h) e
  named_seen t h e n = record { parts = n.parts; closed = n.closed; whole = n.whole; ticket = n.ticket; error = n.error; first = first_seen (version_of t.start) n.parts.primary h n.ticket n.first }

  pub settled_speaks : (plans : ℕ → Plan) (h : List Event) (c n : ℕ) (t : Standing P) (turns : Type 0) (e : Error) → IsRun plans h → IsRefusal e ⊎ (((is_undetermined e ≡ true) × HasLostOne t h × (turns → NamesLost t h e)) ⊎ ((is_undetermined e ≡ false) × IsSettled t h))
      → SpeaksRight {P = P} h turns e (row.Begun c t n)
  settled_speaks plans h c n t turns e run (inl refused) = inl refused
  settled_speaks plans h c n t turns e run (inr (inl (says, lost, named))) = inr (inl (says, lost, λ back. named_seen t h e (named back)))
  settled_speaks plans h c n t turns e run (inr (inr settled)) = inr (inr (settled.0, settled_undoubted plans h c n t run settled.1))

  -- it waits for another line
  undoubted_waits : (n : ℕ) (h : List Event) (r : Row P) → IsUndoubted h r → IsUndoubted h (with_waits n r)
  undoubted_waits n h (row.Begun c t m) x = x
  undoubted_waits n h r x = x

  doubted_waits : (n : ℕ) (h : List Event) (r : Row P) → IsDoubted h r → IsDoubted h (with_waits n r)
  doubted_waits n h (row.Begun c t m) x = x
  doubted_waits n h r x = x

  named_waits : (n : ℕ) (h : List Event) (e : Error) (r : Row P) → IsNamedBy h e r → IsNamedBy h e (with_waits n r)
  named_waits n h e (row.Begun c t m) x = x
  named_waits n h e r x = x

  pub speaks_waits : (n : ℕ) (h : List Event) (turns : Type 0) (e : Error) (r : Row P) → SpeaksRight h turns e r → SpeaksRight h turns e (with_waits n r)
  speaks_waits n h turns e r (inl refused) = inl refused
  speaks_waits n h turns e r (inr (inl (says, lost, named))) = inr (inl (says, doubted_waits n h r lost, λ back. named_waits n h e r (named back)))
  speaks_waits n h turns e r (inr (inr clear)) = inr (inr (clear.0, undoubted_waits n h r clear.1))

  pub speaks_line : (rows : List (Row P)) (h : List Event) (line : ℕ) (turns : Type 0) (e : Error) → 1 ≤ line → SpeaksRight h turns e (row_at rows (line - 1)) → SpeaksRightAt rows h line turns e
  speaks_line rows h line turns e one x = subst (λ n. SpeaksRightAt rows h n turns e) (hears_own line one) x

  -- a line that stands for itself calls no transaction
  pub speaks_own : (rows : List (Row P)) (h : List Event) (line : ℕ) (o : Outcome) → EndSpeaks rows h (itself line) line o
  speaks_own rows h line (outcomes.Err e) = λ apart. absurd (apart refl)
  speaks_own rows h line o = tt

  -- It stays so where no loss is new: a row that keeps what was right of it keeps its start and its primary.

  module _ (h longer : List Event) (within : Within h longer) (unlost : (t : Ticket) (r : Request) → Has longer (Lost t r) → Has h (Lost t r)) (front : Front (seen h) (seen longer)) where
    undoubted_as : (s : ℕ) (k : Key) (new : Row P) → IsCommittedSo (committed_alone s k) 0 new
        → ((u : Ticket) (r : CommitRequest) → Has longer (Lost u (Commit r)) → r.start_version ≡ s → has_key r.keys k ≡ true → (o : Reply) × Has longer (Took u (Commit r) o)) → IsUndoubted longer new
    undoubted_as s k (row.Begun c t m) (parts, closed, whole, committed) took =
        let same = named_alone s (version_of t.start) 0 k (plan_of parts) committed in
        (parts, closed, whole, λ u r lost commits. took u r lost (commits.start ∙ same.0) (subst (λ p. has_key r.keys p ≡ true) same.1 commits.primary))
    undoubted_as s k new x took = absurd x

    undoubted_on : (old new : Row P) → ((g : List Event) → IsCommittedSo g 0 old → IsCommittedSo g 0 new) → IsUndoubted h old → IsUndoubted longer new
    undoubted_on (row.Begun c t m) new kept (parts, closed, whole, took) =
        undoubted_as (version_of t.start) parts.primary new
        (kept (committed_alone (version_of t.start) parts.primary) (parts, closed, whole, (_, alone (version_of t.start) parts.primary, fine, inl refl, (refl, refl), refl, refl, has_only parts.primary)))
        (λ u r lost start primary. let was = took u r (unlost u (Commit r) lost) (record { start = start; primary = primary }) in (was.0, within _ was.1))
    undoubted_on old new kept x = absurd x

    doubted_as : (s : ℕ) (k : Key) (new : Row P) → IsCommittedSo (committed_alone s k) 0 new → (u : Ticket) (r : CommitRequest) → Has longer (Lost u (Commit r)) → r.start_version ≡ s → has_key r.keys k ≡ true → IsDoubted longer new
    doubted_as s k (row.Begun c t m) (parts, closed, whole, committed) u r lost start primary =
        let same = named_alone s (version_of t.start) 0 k (plan_of parts) committed in
        record {
          parts = parts;
          closed = closed;
          whole = whole;
          ticket = u;
          lost = (r, lost, record { start = start ∙ sym same.0; primary = subst (λ p. has_key r.keys p ≡ true) (sym same.1) primary });
        }
    doubted_as s k new x u r lost start primary = absurd x

    doubted_on : (old new : Row P) → ((g : List Event) → IsCommittedSo g 0 old → IsCommittedSo g 0 new) → IsDoubted h old → IsDoubted longer new
    doubted_on (row.Begun c t m) new kept l =
        doubted_as (version_of t.start) l.parts.primary new
        (kept (committed_alone (version_of t.start) l.parts.primary) (l.parts, l.closed, l.whole, (_, alone (version_of t.start) l.parts.primary, fine, inl refl, (refl, refl), refl, refl, has_only l.parts.primary)))
        l.ticket l.lost.0 (within _ l.lost.1) l.lost.2.start l.lost.2.primary
    doubted_on old new kept l = absurd l

    named_as : (s : ℕ) (k : Key) (e : Error) (new : Row P) → IsCommittedSo (committed_alone s k) 0 new → (u : Ticket) → view_of e ≡ not_known (view_of (GrpcAPI u)) → IsFirstLostOfPrimary s k (seen longer) u → IsNamedBy longer e new
    named_as s k e (row.Begun c t m) (parts, closed, whole, committed) u error first =
        let same = named_alone s (version_of t.start) 0 k (plan_of parts) committed in
        record {
          parts = parts;
          closed = closed;
          whole = whole;
          ticket = u;
          error = error;
          first = subst (λ v. IsFirstLostOfPrimary v parts.primary (seen longer) u) (sym same.0) (subst (λ p. IsFirstLostOfPrimary s p (seen longer) u) (sym same.1) first);
        }
    named_as s k e new x u error first = absurd x

    named_on : (e : Error) (old new : Row P) → ((g : List Event) → IsCommittedSo g 0 old → IsCommittedSo g 0 new) → IsNamedBy h e old → IsNamedBy longer e new
    named_on e (row.Begun c t m) new kept n =
        named_as (version_of t.start) n.parts.primary e new
        (kept (committed_alone (version_of t.start) n.parts.primary) (n.parts, n.closed, n.whole, (_, alone (version_of t.start) n.parts.primary, fine, inl refl, (refl, refl), refl, refl, has_only n.parts.primary)))
        n.ticket n.error (first_front (version_of t.start) n.parts.primary (seen h) (seen longer) n.ticket front n.first)
    named_on e old new kept n = absurd n

    speaks_on : (olds news : List (Row P)) (x : ℕ) (turns : Type 0) (e : Error) → KeepRight olds news → SpeaksRightAt olds h x turns e → SpeaksRightAt news longer x turns e
    speaks_on olds news zero turns e kept s = s
    speaks_on olds news (suc i) turns e kept (inl refused) = inl refused
    speaks_on olds news (suc i) turns e kept (inr (inl (says, lost, named))) =
        let still : (g : List Event) → IsCommittedSo g 0 (row_at olds i) → IsCommittedSo g 0 (row_at news i) = λ g x. kept (suc i) (outcomes.Ok (payloads.Commit (Some 0))) g g (Within-refl g) x in
        inr (inl (says, doubted_on (row_at olds i) (row_at news i) still lost, λ back. named_on e (row_at olds i) (row_at news i) still (named back)))
    speaks_on olds news (suc i) turns e kept (inr (inr clear)) =
        inr (inr (clear.0, undoubted_on (row_at olds i) (row_at news i) (λ g x. kept (suc i) (outcomes.Ok (payloads.Commit (Some 0))) g g (Within-refl g) x) clear.1))

    pub end_speaks_on : (olds news : List (Row P)) (call : CallOf) (n : ℕ) (o : Outcome) → KeepRight olds news → EndSpeaks olds h call n o → EndSpeaks news longer call n o
    end_speaks_on olds news call n (outcomes.Err e) kept s = λ apart. speaks_on olds news call.at (call.commits ≡ false) e kept (s apart)
    end_speaks_on olds news call n o kept s = tt

  -- What a machine sees of it: a transaction of which this is right is not in doubt.

  module _ (plans : ℕ → Plan) (h : List Event) (run : IsRun plans h) where
    -- whatever a Prewrite of it names is its primary
    names_primary : (rows : List (Row P)) (i c m : ℕ) (t : Standing P) (parts : CommitParts) (u : Ticket) (r : PrewriteRequest) → HavePlans plans rows → row_at rows i ≡ row.Begun c t m → allows_data t.status ≡ false → parts_of t.contents ≡ Some parts
        → Has (seen h) (Sent u (Prewrite r)) → r.start_version ≡ version_of t.start → r.primary_lock ≡ parts.primary
    names_primary rows i c m t parts u r have e closed whole sent start =
        let was = seen_had h (Sent u (Prewrite r)) sent in
        let planned = subst (λ (r : Row P). HasPlan plans r) e (have i) closed parts whole in
        prewrite_names plans h u r run was.0 ∙ ap (λ s. (plans s).primary) start ∙ ap (λ (p : Plan). p.primary) planned

    not_doubted : (rows : List (Row P)) (i v : ℕ) (r : Row P) → HavePlans plans rows → row_at rows i ≡ r → BeganAt v r → IsUndoubted h r → IsInDoubt v (seen h) → ⊥
    not_doubted rows i v (row.Begun c t m) have e began (parts, closed, whole, took) d =
        let l = d.left in
        let p = d.written in
        let primary : p.1.primary_lock ≡ parts.primary = names_primary rows i c m t parts p.0 p.1 have e closed whole p.2 (p.3 ∙ sym began) in
        let lost = seen_had h (Lost l.ticket (Commit l.commit)) l.lost in
        let taken = took l.ticket l.commit lost.0 (record { start = l.same ∙ sym began; primary = subst (λ p. has_key l.commit.keys p ≡ true) primary (l.primary p.0 p.1 p.2 p.3) }) in
        d.untaken taken.0 (had_seen h (Took l.ticket (Commit l.commit) taken.0) tt taken.1)
    not_doubted rows i v r have e began clear d = clear

    -- and one of which a Commit was lost has lost one
    lost_commit : (rows : List (Row P)) (i v : ℕ) (r : Row P) → HavePlans plans rows → row_at rows i ≡ r → BeganAt v r → IsDoubted h r → HasLostCommit v (seen h)
    lost_commit rows i v (row.Begun c t m) have e began l = record {
      ticket = l.ticket;
      commit = l.lost.0;
      lost = had_seen h (Lost l.ticket (Commit l.lost.0)) tt l.lost.1;
      same = l.lost.2.start ∙ began;
      primary = λ u r sent start. subst (λ p. has_key l.lost.0.keys p ≡ true) (sym (names_primary rows i c m t l.parts u r have e l.closed l.whole sent (start ∙ sym began))) l.lost.2.primary;
    }
    lost_commit rows i v r have e began l = absurd l

    -- and names the first
    first_commit : (rows : List (Row P)) (i v : ℕ) (e : Error) (r : Row P) → HavePlans plans rows → row_at rows i ≡ r → BeganAt v r → IsNamedBy h e r → NamesFirst v (seen h) e
    first_commit rows i v e (row.Begun c t m) have at began n = record {
      ticket = n.ticket;
      error = n.error;
      first = record {
        commit = l.request;
        newer = l.newer;
        older = l.older;
        splits = l.splits;
        same = l.start ∙ began;
        primary = λ u r sent start. subst (λ p. has_key l.request.keys p ≡ true) (sym (names_primary rows i c m t n.parts u r have at n.closed n.whole sent (start ∙ sym began))) l.key;
        first = by;
      };
    }
      where
        l : IsFirstLostOfPrimary (version_of t.start) n.parts.primary (seen h) n.ticket
        l = n.first

        splits : seen h ≡ (l.newer ++ Lost n.ticket (Commit l.request) ∷ []) ++ l.older
        splits = l.splits ∙ sym (append_assoc l.newer (Lost n.ticket (Commit l.request) ∷ []) l.older)

        by : WasWritten v l.older → (lost : HasLostCommit v l.older) → lost.ticket ≢ n.ticket → (o : Reply) × Has l.older (Took lost.ticket (Commit lost.commit) o)
        by p lost other =
            let written = first_older (version_of t.start) n.parts.primary (seen h) n.ticket l (Sent p.0 (Prewrite p.1)) p.2 in
            let primary : p.1.primary_lock ≡ n.parts.primary = names_primary rows i c m t n.parts p.0 p.1 have at n.closed n.whole written (p.3 ∙ sym began) in
            l.first lost.ticket lost.commit other (suffix_sent plans h _ l.older lost.ticket (Commit lost.commit) run splits lost.lost) lost.lost (lost.same ∙ sym began) (subst (λ k. has_key lost.commit.keys k ≡ true) primary (lost.primary p.0 p.1 p.2 p.3))
    first_commit rows i v e r have at began n = absurd n

    says_doubt : (rows : List (Row P)) (x v : ℕ) (b : Bool) (e : Error) → HavePlans plans rows → HoldsAt rows (seen h) x (outcomes.Ok (payloads.Number v)) → SpeaksRightAt rows h x (b ≡ false) e → SaysDoubt (seen h) v b e
    says_doubt rows zero v b e have began s = absurd s
    says_doubt rows (suc i) v b e have began (inl refused) = inl refused
    says_doubt rows (suc i) v b e have began (inr (inl (says, lost, named))) = inr (record {
      always = λ d. says;
      only = λ told. lost_commit rows i v (row_at rows i) have refl began lost;
      names = λ back told. first_commit rows i v e (row_at rows i) have refl began (named back);
    })
    says_doubt rows (suc i) v b e have began (inr (inr clear)) = inr (record {
      always = λ d. absurd (not_doubted rows i v (row_at rows i) have refl began clear.1 d);
      only = λ says. absurd (no_flag (is_undetermined e) says clear.0);
      names = λ back says. absurd (no_flag (is_undetermined e) says clear.0);
    })

    -- so what a call answered tells of it what it has to
    pub speaks_of : (rows : List (Row P)) (held : ℕ → Outcome → Type 0) (call : CallOf) (n : ℕ) (o : Outcome) → HavePlans plans rows → ((y : ℕ) (p : Outcome) → held y p → HoldsAt rows (seen h) y p) → EndSpeaks rows h call n o → SpeaksOf held (seen h) call n o
    speaks_of rows held call n (outcomes.Err e) have kept s = λ apart v began. record { doubt = says_doubt rows call.at v call.commits e have (kept call.at (outcomes.Ok (payloads.Number v)) began) (s apart) }
    speaks_of rows held call n o have kept s = λ apart v began. record { doubt = tt }
