-- What the laws of a message type say of the reports on bytes.
use Rattle.std.proofs.Common.{◌≡◌, ℕ, List, Bool, true, false, Ok, Err, refl, sym, ap, ◌∙◌, inl, inr}
use Rattle.std.proofs.lemmas.Bool.Decides.{same_from_decides}
use Rattle.std.specs.Prelude.{IsTrue, ◌↔◌, ◌++◌, codes}
use Rattle.nla_frames.specs.Fault.{Outcome}
use Rattle.tc_meaning.specs.Whole.{Words, Correspond}
use Rattle.tc_meaning.proofs.MessageTheorems.{one_outcome}
use Rattle.tc_meaning.proofs.Decidable.{Decidable, decidable_as, decidable_never, decidable_same_bytes}
use Rattle.tc_wire.specs.Facade.{DecodeError, name_of}
use Rattle.tcrewrite_lib.specs.Report.{Report, one_line, accepted, Accepts, Refuses, ReportsAs}

-- the laws hold of bytes, and tests tell what fits and what is settled
module _ {X : Type 0} (words : Words X) (bytes : List ℕ) (law : Correspond words bytes)
    (decidable_fits : (m : X) → Decidable (words.Fits m)) (decidable_settled : (m : X) → Decidable (words.Settled m)) where
  -- canonical bytes read as a message that fits and is written as the same bytes, so it is decidable whether bytes are
  -- canonical
  unread : ((m : X) → words.Reads bytes m → words.Fits m → ⊥) → Decidable (words.Canonical bytes)
  unread never = decidable_as (λ n. absurd n, λ c. let m = law.canonical c in never m.0 m.1 m.2) decidable_never

  decidable_canonical : Decidable (words.Canonical bytes)
  decidable_canonical = of (words.read bytes) refl
    where
      fitting : (m : X) → words.Reads bytes m → Decidable (words.Fits m) → Decidable (words.Canonical bytes)
      fitting m reads (true, same) = decidable_as (law.same m reads (same.0 refl)) (decidable_same_bytes (words.bytes m) bytes)
      fitting m reads (false, same) = unread (λ n there f.
          let one : n ≡ m = (one_outcome words bytes law).one_reading n m there reads in
          let yes : IsTrue false = same.1 (rw one at f) in absurd cc)

      of : (tried : Outcome X) → words.read bytes ≡ tried → Decidable (words.Canonical bytes)
      of (Ok m) is = let reads = (law.reading m).0 is in fitting m reads (decidable_fits m)
      of (Err e) is = unread (λ m reads f. (one_outcome words bytes law).not_both m e reads ((law.fault e).0 is))

  -- the report on a message whose properties are known
  abbrev accepting : Bool → Bool → Bool → X → Report
  accepting fits settled canonical m = record { text = accepted fits settled canonical (words.bytes m); status = 0 }

  -- the report on a fault
  abbrev refusing : DecodeError → Report
  refusing e = one_line (codes "refused " ++ name_of e) 1

  -- bytes have a report
  pub some_report : (r : Report) × ReportsAs words bytes r
  some_report = of (words.read bytes) refl
    where
      of : (outcome : Outcome X) → words.read bytes ≡ outcome → (r : Report) × ReportsAs words bytes r
      of (Ok m) is =
          let fits = decidable_fits m in
          let settled = decidable_settled m in (
            accepting fits.0 settled.0 decidable_canonical.0 m,
            inl (record {
              message = m;
              fits = fits.0;
              settled = settled.0;
              canonical = decidable_canonical.0;
              reads = (law.reading m).0 is;
              fits_iff = fits.1;
              settled_iff = settled.1;
              canonical_iff = decidable_canonical.1;
              is = refl;
            }),
          )
      of (Err e) is = (refusing e, inr (record { fault = e; first = (law.fault e).0 is; is = refl }))

  one_accepts : (r s : Report) → Accepts words bytes r → Accepts words bytes s → r ≡ s
  one_accepts r s this that =
      let message : this.message ≡ that.message = (one_outcome words bytes law).one_reading this.message that.message this.reads that.reads in
      let that_fits : IsTrue that.fits ↔ words.Fits this.message = rw message that.fits_iff in
      let that_settled : IsTrue that.settled ↔ words.Settled this.message = rw message that.settled_iff in
      let fits : this.fits ≡ that.fits = same_from_decides this.fits that.fits this.fits_iff that_fits in
      let settled : this.settled ≡ that.settled = same_from_decides this.settled that.settled this.settled_iff that_settled in
      let canonical : this.canonical ≡ that.canonical = same_from_decides this.canonical that.canonical this.canonical_iff that.canonical_iff in
      this.is
      ∙ ap (λ b. accepting b this.settled this.canonical this.message) fits
      ∙ ap (λ b. accepting that.fits b this.canonical this.message) settled
      ∙ ap (λ b. accepting that.fits that.settled b this.message) canonical
      ∙ ap (λ m. accepting that.fits that.settled that.canonical m) message
      ∙ sym that.is

  one_refuses : (r s : Report) → Refuses words bytes r → Refuses words bytes s → r ≡ s
  one_refuses r s this that = this.is ∙ ap refusing ((one_outcome words bytes law).one_fault this.fault that.fault this.first that.first) ∙ sym that.is

  -- bytes have no other report
  pub one_report : (r s : Report) → ReportsAs words bytes r → ReportsAs words bytes s → r ≡ s
  one_report r s (inl this) (inl that) = one_accepts r s this that
  one_report r s (inl this) (inr that) = absurd ((one_outcome words bytes law).not_both this.message that.fault this.reads that.first)
  one_report r s (inr this) (inl that) = absurd ((one_outcome words bytes law).not_both that.message this.fault that.reads this.first)
  one_report r s (inr this) (inr that) = one_refuses r s this that
