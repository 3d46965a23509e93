-- What is marked as lost was lost.
use Rattle.std.proofs.Common.{◌≡◌, inl, ℕ, Bool, true, false, List, ◌∷◌, Option, Some, None, refl, sym, ap, subst, ◌∙◌}
use Rattle.std.specs.Prelude.{if◌then◌else◌}
use Rattle.txn_kv.specs.declared.reply.Reply.{Reply}
use Rattle.txn_kv.specs.declared.request.Request.{Request}
use Rattle.txn_kv.specs.declared.request.Request.TheVariants.{Commit}
use Rattle.txn_kv.specs.declared.ticket.Ticket.{Ticket}
use Rattle.txn_history.specs.Event.{Event}
use Rattle.txn_history.specs.Event.Event.{Lost}
use Rattle.txn_history.specs.Meaning.{IsSent}
use Rattle.txn_history.specs.Plan.{Plan}
use Rattle.txn_history.specs.Posted.{Posted, Within, Within-one, ticket_of}
use Rattle.txn_history.specs.Arrivals.{told_by}
use Rattle.txn_kv.specs.declared.arrival.Arrival.{Arrival}
use Rattle.txn_kv.specs.declared.arrival.Arrival.TheVariants as arrivals
use Rattle.txn_commit.specs.Following.{Commits, IsFollowed, KnowsCommits, MarksLost, PrimaryLost, answered, heard, is_done, is_out, lost, or_ticket, without}
use Rattle.txn_commit.proofs.Following.{out_among}

pub marks_longer : (plan : Plan) (s : ℕ) (c : Commits) (h longer : List Event) → Within h longer → MarksLost plan s c h → MarksLost plan s c longer
marks_longer plan s c h longer w m t e = let p = m t e in (p.0, w (Lost t (Commit p.0)) p.1, p.2)

marks_as : (plan : Plan) (s : ℕ) (c d : Commits) (h : List Event) → d.lost ≡ c.lost → MarksLost plan s c h → MarksLost plan s d h
marks_as plan s c d h same m t e = m t (sym same ∙ e)

answered_mark : (t : Ticket) (x : Reply) (c : Commits) → (answered t x c).lost ≡ c.lost
answered_mark t x c = by (is_done c.timestamp x)
  where
    by : (b : Bool) → (if b then c else record c { out = without t c.out }).lost ≡ c.lost
    by true = refl
    by false = refl

first_lost : (plan : Plan) (s : ℕ) (h : List Event) (o : Option Ticket) (t : Ticket) → ((u : Ticket) → o ≡ Some u → PrimaryLost plan s h u) → PrimaryLost plan s h t → (u : Ticket) → or_ticket o t ≡ Some u → PrimaryLost plan s h u
first_lost plan s h None t old new u e = subst (PrimaryLost plan s h) (let f : t ≡ u = cc in f) new
first_lost plan s h (Some f) t old new u e = old u e

marks_lost : (plan : Plan) (s : ℕ) (c : Commits) (t : Ticket) (q : Request) (h : List Event) → IsSent t q h → KnowsCommits plan s c h → MarksLost plan s c h → MarksLost plan s (lost t c) (Lost t q ∷ h)
marks_lost plan s c t q h known k m = by (is_out t c) refl
  where
    older : MarksLost plan s c (Lost t q ∷ h)
    older = marks_longer plan s c h (Lost t q ∷ h) (Within-one (Lost t q) h) m

    by : (b : Bool) → is_out t c ≡ b → MarksLost plan s (if b then record c { out = without t c.out; lost = or_ticket c.lost t } else c) (Lost t q ∷ h)
    by false e = older
    by true e =
        let sent = k.waiting t (out_among t c.out e) in
        first_lost plan s (Lost t q ∷ h) c.lost t older (sent.0, inl (ap (λ r. Lost t r) (sym (known.alone (Commit sent.0) sent.1))), sent.2)

pub marks_heard : (plan : Plan) (s : ℕ) (c : Commits) (a : Arrival) (o : Posted) (r : Request) (h : List Event) → (told_by a o r).known h → KnowsCommits plan s c h → MarksLost plan s c h → MarksLost plan s (heard a o c) ((told_by a o r).hear h)
marks_heard plan s c (arrivals.Reply n x) o r h known k m =
    marks_as plan s c (answered (ticket_of o n) x c) ((told_by (arrivals.Reply n x) o r).hear h) (answered_mark (ticket_of o n) x c) (marks_longer plan s c h ((told_by (arrivals.Reply n x) o r).hear h) ((told_by (arrivals.Reply n x) o r).within h) m)
marks_heard plan s c (arrivals.Lost n) o r h known k m = marks_lost plan s c (ticket_of o n) r h known k m
marks_heard plan s c (arrivals.Slept n) o r h known k m = marks_longer plan s c h ((told_by (arrivals.Slept n) o r).hear h) ((told_by (arrivals.Slept n) o r).within h) m
marks_heard plan s c (arrivals.Time n x) o r h known k m = marks_longer plan s c h ((told_by (arrivals.Time n x) o r).hear h) ((told_by (arrivals.Time n x) o r).within h) m

pub marks_followed : (plan : Plan) (s : ℕ) (was is : Commits) (o : Posted) (h : List Event) → IsFollowed o was is → MarksLost plan s was h → MarksLost plan s is h
marks_followed plan s was is o h f m = marks_as plan s was is h f.lost m
