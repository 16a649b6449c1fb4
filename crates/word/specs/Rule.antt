-- The rule by which a schedule goes on, and a vector's words too: FIPS 180-4, section 6.1.2, step 1.
use Rattle.std.specs.Prelude.{ℕ, ◌-◌, List, bit_xor, slice_index}
use Rattle.word.specs.Word.{rotl}

-- the word that follows from those 3, 8, 14 and 16 places before it
abbrev pub rule : ℕ → ℕ → ℕ → ℕ → ℕ
rule w3 w8 w14 w16 = rotl 1 (bit_xor (bit_xor (bit_xor w3 w8) w14) w16)

-- what the rule gives for word t of the list w
abbrev pub rule_at : List ℕ → ℕ → ℕ
rule_at w t = rule (slice_index w (t - 3)) (slice_index w (t - 8)) (slice_index w (t - 14)) (slice_index w (t - 16))
