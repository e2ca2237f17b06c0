-- Rewriting: reading bytes and writing the value, once or several times.
use Rattle.std.specs.Prelude.{◌≡◌, ◌↔◌, ℕ, zero, suc, ◌<◌, List, Bool, false}
use Rattle.tc_meaning.specs.Message.{Message}
use Rattle.tc_meaning.specs.Whole.{Words, tc_words, action_words}

module _ (w : Words Message) where
  -- the bytes read as a message that fits, and these are its bytes
  pub record Rewrites (bytes written : List ℕ) : Type 0 where
    pub message : Message
    pub reads : w.Reads bytes message
    pub fits : w.Fits message
    pub is : written ≡ w.bytes message

  -- n times, one after the other
  abbrev pub RewritesTimes : ℕ → List ℕ → List ℕ → Type 0
  RewritesTimes zero bytes written = written ≡ bytes
  RewritesTimes (suc n) bytes written = (between : List ℕ) × RewritesTimes n bytes between × Rewrites between written

  -- after some rewrites the bytes are these, which are canonical
  pub record SettlesAs (bytes final : List ℕ) : Type 0 where
    pub count : ℕ
    pub reached : RewritesTimes count bytes final
    pub canonical : w.Canonical final

  -- after exactly n rewrites the bytes are these, which are canonical and read as this message
  pub record SettlesIn (count : ℕ) (bytes final : List ℕ) (m : Message) : Type 0 where
    pub reached : RewritesTimes count bytes final
    pub canonical : w.Canonical final
    pub no_sooner : (n : ℕ) (written : List ℕ) → n < count → RewritesTimes n bytes written → w.Canonical written → ⊥
    pub reads : w.Reads final m

  -- the bytes read as this message, which fits, and rewriting ends with those bytes
  pub record Ends (bytes : List ℕ) (m : Message) (final : List ℕ) : Type 0 where
    pub reads : w.Reads bytes m
    pub fits : w.Fits m
    pub settles : SettlesAs bytes final

  -- the laws of rewriting for any bytes: which messages are loose, their norm, and the number of rewrites until the
  -- bytes are canonical
  pub record Rewriting (is_loose : Message → Bool) (norm : Message → Message) (count : Message → ℕ) (bytes : List ℕ) : Type 0 where
    -- a message that was read is unsettled if and only if it is loose
    pub loose : (m : Message) → w.Reads bytes m → w.Settled m ↔ (is_loose m ≡ false)
    -- the norm fits and reads back if the message fits, and is the message itself if the bytes are canonical
    pub norm_typed : (m : Message) → w.Typed m → w.Typed (norm m)
    pub norm_fits : (m : Message) → w.Fits m → w.Fits (norm m)
    pub norm_settled : (m : Message) → w.Reads bytes m → w.Settled (norm m)
    pub norm_canonical : (m : Message) → w.Reads bytes m → w.Fits m → w.Canonical (w.bytes (norm m))
    pub canonical : (m : Message) → w.Reads bytes m → w.Fits m → w.Canonical bytes → norm m ≡ m
    -- bytes are rewritten in at most one way
    pub one_way : (c d : List ℕ) → Rewrites bytes c → Rewrites bytes d → c ≡ d
    -- bytes that aren't canonical become so after exactly n rewrites, and then read as the norm
    pub at_once : (m : Message) → w.Reads bytes m → w.Fits m → w.Canonical bytes → SettlesIn 0 bytes bytes (norm m)
    pub settles : (m : Message) → w.Reads bytes m → w.Fits m → (w.Canonical bytes → ⊥)
        → (c : List ℕ) × SettlesIn (count m) bytes c (norm m)
    pub last : (m : Message) → w.Reads bytes m → w.Fits m → (c : List ℕ) × SettlesAs bytes c × w.Reads c (norm m)

abbrev pub RewritesTc : List ℕ → List ℕ → Type 0
RewritesTc = Rewrites tc_words

abbrev pub RewritesAct : List ℕ → List ℕ → Type 0
RewritesAct = Rewrites action_words
