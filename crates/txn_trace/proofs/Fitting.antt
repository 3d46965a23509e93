-- What an oracle holds fits a history.
use Rattle.std.proofs.Common.{◌≡◌, ◌⊎◌, ℕ, zero, suc, inl, inr, Bool, true, false, List, [], ◌∷◌, ◌++◌, length, take, drop, Option, Some, None, refl, ap, subst}
use Rattle.std.specs.Prelude.{if◌then◌else◌}
use Rattle.txn_kv.specs.declared.request.Request.TheVariants.{Tso}
use Rattle.txn_kv.specs.declared.request.cluster.TsoRequest.{TsoRequest}
use Rattle.txn_kv.specs.declared.ticket.Ticket.{Ticket}
use Rattle.txn_history.specs.Among.{IsAmong}
use Rattle.txn_history.specs.Event.{Event, Has}
use Rattle.txn_history.specs.Event.Event.{Sent, Asked}
use Rattle.txn_history.specs.Licence.{SentAfterAsk}
use Rattle.txn_history.specs.Posted.{Errand, after}
use Rattle.txn_law.specs.Part.{IsPart}
use Rattle.txn_tso.specs.Oracle.{Oracle, askers_out, group_or_none, idle, is_ready, most, next_request, with_next_group}
use Rattle.txn_tso.specs.declared.asker.Asker.{Asker}
use Rattle.txn_trace.specs.Answering.{GroupFits, OracleFits, ask_of}
use Rattle.txn_trace.proofs.Parts.{part_after, part_carries}

pub fits_idle : (t : Ticket) (h : List Event) → OracleFits idle t h
fits_idle t h = record { queue = λ a m. absurd m; out = tt }

group_more : (out : Option (List Asker)) (t : Ticket) (h : List Event) (e : Event) → GroupFits out t h → GroupFits out t (e ∷ h)
group_more None t h e f = tt
group_more (Some group) t h e f = (inr f.0, λ a m. inr (f.1 a m))

pub fits_more : (o : Oracle) (t : Ticket) (h : List Event) (e : Event) → OracleFits o t h → OracleFits o t (e ∷ h)
fits_more o t h e f = record { queue = λ a m. inr (f.queue a m); out = group_more o.out t h e f.out }

pub fits_longer : (o : Oracle) (t : Ticket) (h longer : List Event) → IsPart longer h → OracleFits o t h → OracleFits o t longer
fits_longer o t h longer part f = part_carries (OracleFits o t) (λ e k g. fits_more o t k e g) longer h part f

pub fits_after : (o : Oracle) (t : Ticket) (h : List Event) (line : ℕ) (beat : Bool) (rs : List Errand) → OracleFits o t h → OracleFits o t (after line beat h rs)
fits_after o t h line beat rs f = fits_longer o t h (after line beat h rs) (part_after line beat h rs) f

among_pushed : (xs : List Asker) (a b : Asker) → IsAmong (xs ++ a ∷ []) b → IsAmong xs b ⊎ (a ≡ b)
among_pushed [] a b (inl e) = inr e
among_pushed [] a b (inr m) = absurd m
among_pushed (x ∷ xs) a b (inl e) = inl (inl e)
among_pushed (x ∷ xs) a b (inr m) = elim (among_pushed xs a b m) [ inl w ↦ inl (inr w) | inr w ↦ inr w ]

pub fits_queued : (o : Oracle) (t : Ticket) (h : List Event) (a : Asker) → Has h (Asked (ask_of a)) → OracleFits o t h → OracleFits (record o { queue = o.queue ++ a ∷ [] }) t h
fits_queued o t h a g f = record {
  queue = λ b m. elim (among_pushed o.queue a b m) [ inl w ↦ f.queue b w | inr e ↦ subst (λ (x : Asker). Has h (Asked (ask_of x))) e g ];
  out = f.out;
}

pub fits_asked : (o : Oracle) (t : Ticket) (h : List Event) (a : Asker) → OracleFits o t h → OracleFits (record o { queue = o.queue ++ a ∷ [] }) t (Asked (ask_of a) ∷ h)
fits_asked o t h a f = fits_queued o t (Asked (ask_of a) ∷ h) a (inl refl) (fits_more o t h (Asked (ask_of a)) f)

among_take : (n : ℕ) (xs : List Asker) (a : Asker) → IsAmong (take n xs) a → IsAmong xs a
among_take zero xs a m = absurd m
among_take (suc n) [] a m = absurd m
among_take (suc n) (x ∷ xs) a (inl e) = inl e
among_take (suc n) (x ∷ xs) a (inr m) = inr (among_take n xs a m)

among_drop : (n : ℕ) (xs : List Asker) (a : Asker) → IsAmong (drop n xs) a → IsAmong xs a
among_drop zero xs a m = m
among_drop (suc n) [] a m = absurd m
among_drop (suc n) (x ∷ xs) a m = inr (among_drop n xs a m)

-- the request of the next group, if one goes out, and the oracle then
abbrev pub asking : Bool → Oracle → Option TsoRequest
asking b o = if b then Some (record { count = length (take most o.queue) }) else None

abbrev pub gone_out : Oracle → Oracle
gone_out o = record { queue = drop most o.queue; out = Some (take most o.queue) }

pub fits_sent : (o : Oracle) (t u : Ticket) (h : List Event) (r : TsoRequest) → next_request o ≡ Some r → OracleFits o t h → OracleFits (with_next_group o) u (Sent u (Tso r) ∷ h)
fits_sent o t u h r e f = by (is_ready o) e
  where
    by : (b : Bool) → asking b o ≡ Some r
        → OracleFits (if b then gone_out o else o) u (Sent u (Tso r) ∷ h)
    by false g = absurd (cc)
    by true g = let same : r ≡ record { count = length (take most o.queue) } = cc in record {
      queue = λ a m. inr (f.queue a (among_drop most o.queue a m));
      out = (inl (ap (λ (q : TsoRequest). Sent u (Tso q)) same), λ a m. inl (r, refl, f.queue a (among_take most o.queue a m)));
    }

pub fits_waiting : (o : Oracle) (t : Ticket) (h : List Event) → next_request o ≡ None → OracleFits o t h → OracleFits (with_next_group o) t h
fits_waiting o t h e f = by (is_ready o) e
  where
    by : (b : Bool) → asking b o ≡ None
        → OracleFits (if b then gone_out o else o) t h
    by false g = f
    by true g = absurd (cc)

pub fits_ended : (o : Oracle) (t u : Ticket) (h : List Event) → OracleFits o t h → OracleFits (record o { out = None }) u h
fits_ended o t u h f = record { queue = f.queue; out = tt }

pub asked_before : (h : List Event) (a t : Ticket) → SentAfterAsk h a t → Has h (Asked a)
asked_before [] a t w = absurd w
asked_before (e ∷ h) a t (inl w) = inr w.2
asked_before (e ∷ h) a t (inr w) = inr (asked_before h a t w)

pub out_asked : (o : Oracle) (t : Ticket) (h : List Event) → OracleFits o t h → (a : Asker) → IsAmong (askers_out o) a → Has h (Asked (ask_of a))
out_asked o t h f a m = by o.out f.out m
  where
    by : (out : Option (List Asker)) → GroupFits out t h → IsAmong (group_or_none out) a → Has h (Asked (ask_of a))
    by None g n = absurd n
    by (Some group) g n = asked_before h (ask_of a) t (g.1 a n)
