-- The table of VRs (document 01, "Reading"). A VR is its two letters, first × 256 + second.
use Rattle.std.specs.Prelude.{ℕ, List, [], ◌∷◌, Bool, false, cond, ◌||◌, eqb}

abbrev pub AE : ℕ
AE = 0x4145

abbrev pub AS : ℕ
AS = 0x4153

abbrev pub AT : ℕ
AT = 0x4154

abbrev pub CS : ℕ
CS = 0x4353

abbrev pub DA : ℕ
DA = 0x4441

abbrev pub DS : ℕ
DS = 0x4453

abbrev pub DT : ℕ
DT = 0x4454

abbrev pub FD : ℕ
FD = 0x4644

abbrev pub FL : ℕ
FL = 0x464C

abbrev pub IS : ℕ
IS = 0x4953

abbrev pub LO : ℕ
LO = 0x4C4F

abbrev pub LT : ℕ
LT = 0x4C54

abbrev pub OB : ℕ
OB = 0x4F42

abbrev pub OD : ℕ
OD = 0x4F44

abbrev pub OF : ℕ
OF = 0x4F46

abbrev pub OL : ℕ
OL = 0x4F4C

abbrev pub OV : ℕ
OV = 0x4F56

abbrev pub OW : ℕ
OW = 0x4F57

abbrev pub PN : ℕ
PN = 0x504E

abbrev pub SH : ℕ
SH = 0x5348

abbrev pub SL : ℕ
SL = 0x534C

abbrev pub SQ : ℕ
SQ = 0x5351

abbrev pub SS : ℕ
SS = 0x5353

abbrev pub ST : ℕ
ST = 0x5354

abbrev pub SV : ℕ
SV = 0x5356

abbrev pub TM : ℕ
TM = 0x544D

abbrev pub UC : ℕ
UC = 0x5543

abbrev pub UI : ℕ
UI = 0x5549

abbrev pub UL : ℕ
UL = 0x554C

abbrev pub UN : ℕ
UN = 0x554E

abbrev pub UR : ℕ
UR = 0x5552

abbrev pub US : ℕ
US = 0x5553

abbrev pub UT : ℕ
UT = 0x5554

abbrev pub UV : ℕ
UV = 0x5556

-- VRs with two zero bytes and a 32-bit length.
abbrev pub long_vrs : List ℕ
long_vrs = OB ∷ OD ∷ OF ∷ OL ∷ OV ∷ OW ∷ SQ ∷ SV ∷ UC ∷ UN ∷ UR ∷ UT ∷ UV ∷ []

-- VRs with a 16-bit length.
abbrev pub short_vrs : List ℕ
short_vrs = AE ∷ AS ∷ AT ∷ CS ∷ DA ∷ DS ∷ DT ∷ FD ∷ FL ∷ IS ∷ LO ∷ LT ∷ PN ∷ SH ∷ SL ∷ SS ∷ ST ∷ TM ∷ UI ∷ UL ∷ US ∷ []

unfoldable pub listed : List ℕ → ℕ → Bool
listed [] vr = false
listed (k ∷ ks) vr = eqb vr k || listed ks vr

-- The form of a VR's header: 2 with a 32-bit length, 1 with a 16-bit length, 0 if the VR is not listed.
unfoldable pub form_of : ℕ → ℕ
form_of vr = cond (listed long_vrs vr) 2 (cond (listed short_vrs vr) 1 0)
