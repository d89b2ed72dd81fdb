-- Fields behind others, spelled by the bits that spell other fields.
use Rattle.std.proofs.Common.{ℕ, ◌+◌, ◌/◌, Bool, List, length, subst}
use Rattle.dirac_common.specs.Bits.{bits_of}
use Rattle.dirac_common.specs.Numbers as numbers
use Rattle.dirac_bits.specs.Spelling.{Spells}
use Rattle.dirac_bits.specs.Syntax.{Syntax, done, flag_then, uint_then, sint_then, literal_then, block_then, align_then, here_then, refuse, ◌>>=◌}
use Rattle.dirac_picture.proofs.Every.{Every}

-- what the same bits spell behind the same fields
abbrev pub SpellsAs : {B : Type 0} → Syntax B → Syntax B → B → B → Type 0
SpellsAs s s' x x' = (k : ℕ) (bits : List Bool) → Spells s x k bits → Spells s' x' k bits

pub spells_as : {A B : Type 0} (s : Syntax A) (f g : A → Syntax B) (x x' : B) → ((y : A) → SpellsAs (f y) (g y) x x') → SpellsAs (s >>= f) (s >>= g) x x'
spells_as (done y) f g x x' same k bits e = same y k bits e
spells_as (flag_then h) f g x x' same k bits e = (e.0, e.1, e.2, spells_as (h e.0) f g x x' same (k + 1) e.1 e.3)
spells_as (uint_then h) f g x x' same k bits e = (e.0, e.1, e.2, e.3, spells_as (h e.0) f g x x' same (k + length (numbers.uint e.0)) e.1 e.4)
spells_as (sint_then h) f g x x' same k bits e = (e.0, e.1, e.2, e.3, spells_as (h e.0) f g x x' same (k + length (numbers.sint e.0)) e.1 e.4)
spells_as (literal_then h) f g x x' same k bits e = (e.0, e.1, e.2, e.3, spells_as (h e.0) f g x x' same (k + 32) e.1 e.4)
spells_as (block_then len h) f g x x' same k bits e = (e.0, e.1, e.2, e.3, spells_as (h e.0) f g x x' same (k + length (bits_of e.0)) e.1 e.4)
spells_as (align_then s) f g x x' same k bits e = (e.0, e.1, e.2, e.3, spells_as s f g x x' same (k + length e.0) e.1 e.4)
spells_as (here_then h) f g x x' same k bits e = spells_as (h (k / 8)) f g x x' same k bits e
spells_as (refuse at cause) f g x x' same k bits e = absurd e

-- what holds of each value that fields may have holds of one that is spelled
pub every_spelled : {A : Type 0} (P : A → Type 0) (s : Syntax A) (x : A) (k : ℕ) (bits : List Bool) → Every P s → Spells s x k bits → P x
every_spelled P (done y) x k bits every e = subst P e.0 every
every_spelled P (flag_then h) x k bits every e = every_spelled P (h e.0) x (k + 1) e.1 (every e.0) e.3
every_spelled P (uint_then h) x k bits every e = every_spelled P (h e.0) x (k + length (numbers.uint e.0)) e.1 (every e.0) e.4
every_spelled P (sint_then h) x k bits every e = every_spelled P (h e.0) x (k + length (numbers.sint e.0)) e.1 (every e.0) e.4
every_spelled P (literal_then h) x k bits every e = every_spelled P (h e.0) x (k + 32) e.1 (every e.0) e.4
every_spelled P (block_then len h) x k bits every e = every_spelled P (h e.0) x (k + length (bits_of e.0)) e.1 (every e.0) e.4
every_spelled P (align_then s) x k bits every e = every_spelled P s x (k + length e.0) e.1 every e.4
every_spelled P (here_then h) x k bits every e = every_spelled P (h (k / 8)) x k bits (every (k / 8)) e
every_spelled P (refuse at cause) x k bits every e = absurd e

-- what follows from it holds too
pub every_more : {A : Type 0} (P Q : A → Type 0) (s : Syntax A) → ((x : A) → P x → Q x) → Every P s → Every Q s
every_more P Q (done y) same every = same y every
every_more P Q (flag_then h) same every = λ b. every_more P Q (h b) same (every b)
every_more P Q (uint_then h) same every = λ n. every_more P Q (h n) same (every n)
every_more P Q (sint_then h) same every = λ z. every_more P Q (h z) same (every z)
every_more P Q (literal_then h) same every = λ n. every_more P Q (h n) same (every n)
every_more P Q (block_then len h) same every = λ bytes. every_more P Q (h bytes) same (every bytes)
every_more P Q (align_then s) same every = every_more P Q s same every
every_more P Q (here_then h) same every = λ at. every_more P Q (h at) same (every at)
every_more P Q (refuse at cause) same every = every
