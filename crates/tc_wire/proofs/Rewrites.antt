-- From reading and writing to the grammar.
use Rattle.std.proofs.Common.{◌≡◌, ◌↔◌, ◌+◌, ℕ, List, Bool, true, false, refl, sym, ap, subst, ◌∙◌}
use Rattle.nla_frames.specs.Codec.{Codec}
use Rattle.tc_meaning.specs.Message.{Message}
use Rattle.tc_meaning.specs.Whole.{Words, Correspond, action_words}
use Rattle.tc_laws.specs.Loose.{nuls_act}
use Rattle.tc_laws.specs.Norm.{norm_act}
use Rattle.tc_laws.specs.Rewriting.{Rewrites, SettlesIn, Ends}
use Rattle.tc_wire.specs.Rewriting.{Refused, RefusedOf, WrittenOf, SettlesAct, TrimmedOf}
use Rattle.tc_wire.specs.declared.rewriting.RewriteError.{RewriteError}
use Rattle.tc_wire.specs.declared.rewriting.RewriteError.TheVariants.{Decode, DoesNotFit, OutOfMemory}

-- a test that fails refutes what it tests
pub refuted : {P : Type 0} (test : Bool) → (test ≡ true) ↔ P → test ≡ false → P → ⊥
refuted test tells fails p = let holds : test ≡ true = tells.1 p in absurd (cc (fails, holds))

module _ (w : Words Message) (bytes : List ℕ) (law : Correspond w bytes) where
  -- a codec whose bytes and whose test of fitting are those of the words
  abbrev codec : Codec (List ℕ) Message
  codec = record { read = λ kind bytes. w.read bytes; write = w.bytes; Typed = w.Typed; Fits = w.Fits; Settled = λ kind. w.Settled }

  -- a refusal by what is read is one by what the grammar reads
  pub refused : (e : RewriteError) → RefusedOf codec (w.read bytes) e → Refused w bytes e
  refused (Decode e) why = (why.0, (law.fault e).0 why.1)
  refused DoesNotFit why = (why.0, (law.reading why.0).0 why.1, why.2)
  refused OutOfMemory why = tt

  -- what is written of what is read is a rewrite
  pub rewritten : (written : List ℕ) → WrittenOf codec (w.read bytes) written → Rewrites w bytes written
  rewritten written (m, is_read, fits, is) = record { message = m; reads = (law.reading m).0 is_read; fits = fits; is = is }

-- the bytes of an action message that is trimmed are those to which rewriting leads
module _ (bytes settled : List ℕ) (nuls : ℕ) (t : TrimmedOf bytes settled nuls) where
  pub settles_trimmed : (s : (c : List ℕ) × SettlesIn action_words (nuls_act t.message + 1) bytes c (norm_act t.message))
      → ((m n : Message) (c d : List ℕ) → Ends action_words bytes m c → Ends action_words settled n d → (c ≡ d) ↔ (norm_act m ≡ norm_act n))
      → action_words.Reads settled (norm_act t.message) → action_words.Fits (norm_act t.message) → action_words.Canonical settled
      → norm_act (norm_act t.message) ≡ norm_act t.message → SettlesAct bytes settled (nuls + 1)
  settles_trimmed s same_norm reads fits canonical twice =
      let from : Ends action_words bytes t.message s.0 =
      record { reads = t.reads; fits = t.fits; settles = record { count = nuls_act t.message + 1; reached = s.1.reached; canonical = s.1.canonical } } in
      let here : Ends action_words settled (norm_act t.message) settled =
      record { reads = reads; fits = fits; settles = record { count = 0; reached = refl; canonical = canonical } } in
      let is : s.0 ≡ settled = (same_norm t.message (norm_act t.message) s.0 settled from here).1 (sym twice) in
      let there : SettlesIn action_words (nuls_act t.message + 1) bytes settled (norm_act t.message) =
      subst (λ (c : List ℕ). SettlesIn action_words (nuls_act t.message + 1) bytes c (norm_act t.message)) is s.1 in
      subst (λ (n : ℕ). SettlesAct bytes settled (n + 1)) (sym t.most) (record { message = t.message; reads = t.reads; settles = there })

  -- the count is that of whatever the bytes read as
  pub counted : Correspond action_words bytes → (m : Message) → action_words.Reads bytes m → nuls + 1 ≡ nuls_act m + 1
  counted law m reads =
      let same : t.message ≡ m = cc ((law.reading t.message).1 t.reads, (law.reading m).1 reads) in
      ap (λ (n : ℕ). n + 1) (t.most ∙ ap nuls_act same)
