-- The seven layouts in the standard's order: 000, tables 3.5-24 to 3.5-30, with the ranges of table 3.4-1.
-- Assumes nothing.
use Rattle.std.specs.Prelude.{ℕ, zero, suc, Bool, cond, ◌&&◌, List, [], ◌∷◌, ◌++◌, eqb, leb, replicate}
use Rattle.layout.specs.Layout.{uint, uint_to, int, int_to}

-- ---- 1021 and 1022

-- DF002 Message Number, DF143 Source-Name Counter, DF144 Source-Name, DF145 Target-Name Counter, DF146 Target-Name
abbrev pub names : ℕ → ℕ → List ℕ
names n m = (uint 12 ∷ uint 5 ∷ []) ++ replicate n (uint 8) ++ (uint 5 ∷ []) ++ replicate m (uint 8)

-- behind the names: 16 fields, those of 1022 alone, the ellipsoids and the quality
abbrev pub parameters : List ℕ → List ℕ
parameters point =
    uint 8  -- DF147 System Identification Number
    ∷ uint 10  -- DF148 Utilized Transformation Message Indicator
    ∷ uint 5  -- DF149 Plate Number
    ∷ uint 4  -- DF150 Computation Indicator
    ∷ uint 2  -- DF151 Height Indicator
    ∷ int_to 19 162000  -- DF152 Latitude of Origin, Area of Validity: 324,000" at 2"
    ∷ int_to 20 324000  -- DF153 Longitude of Origin, Area of Validity: 648,000" at 2"
    ∷ uint 14  -- DF154 N/S Extension, Area of Validity
    ∷ uint 14  -- DF155 E/W Extension, Area of Validity
    ∷ int 23  -- DF156 dX, Translation in X-direction
    ∷ int 23  -- DF157 dY, Translation in Y-direction
    ∷ int 23  -- DF158 dZ, Translation in Z-direction
    ∷ int 32  -- DF159 R1, Rotation Around the X-axis
    ∷ int 32  -- DF160 R2, Rotation Around the Y-axis
    ∷ int 32  -- DF161 R3, Rotation Around the Z-axis
    ∷ int 25  -- DF162 dS, Scale Correction
    ∷ point
    ++ (uint 24  -- DF166 add aS, Semi-major Axis of Source System Ellipsoid
    ∷ uint 25  -- DF167 add bS, Semi-minor Axis of Source System Ellipsoid
    ∷ uint 24  -- DF168 add aT, Semi-major Axis of Target System Ellipsoid
    ∷ uint 25  -- DF169 add bT, Semi-minor Axis of Target System Ellipsoid
    ∷ uint 3  -- DF214 Horizontal Helmert/Molodenski Quality Indicator
    ∷ uint 3  -- DF215 Vertical Helmert/Molodenski Quality Indicator
    ∷ [])

unfoldable pub tail1021 : List ℕ
tail1021 = parameters []

-- DF163 XP, DF164 YP, DF165 ZP: the rotation point
unfoldable pub tail1022 : List ℕ
tail1022 = parameters (int 35 ∷ int 35 ∷ int 35 ∷ [])

unfoldable pub layout1021 : ℕ → ℕ → List ℕ
layout1021 n m = names n m ++ tail1021

unfoldable pub layout1022 : ℕ → ℕ → List ℕ
layout1022 n m = names n m ++ tail1022

-- ---- 1023 and 1024

-- l n times, then r
abbrev pub times : ℕ → List ℕ → List ℕ → List ℕ
times zero l r = r
times (suc n) l r = l ++ times n l r

-- the sixteen grid points and what follows them
abbrev pub points : List ℕ
points =
    times 16 (int 9 ∷ int 9 ∷ int 9 ∷ [])  -- DF199, DF200, DF201; in 1024 DF209, DF210, DF211: three residuals each
    (uint 2  -- DF212 Horizontal Interpolation Method Indicator
    ∷ uint 2  -- DF213 Vertical Interpolation Method Indicator
    ∷ uint 3  -- DF216 Horizontal Grid Quality Indicator
    ∷ uint 3  -- DF217 Vertical Grid Quality Indicator
    ∷ uint 16  -- DF051 Modified Julian Day Number
    ∷ [])

unfoldable pub layout1023 : List ℕ
layout1023 =
    uint 12  -- DF002 Message Number
    ∷ uint 8  -- DF147 System Identification Number
    ∷ uint 1  -- DF190 Horizontal Shift Indicator
    ∷ uint 1  -- DF191 Vertical Shift Indicator
    ∷ int_to 21 648000  -- DF192 Latitude of Origin of Grids: 324,000" at 0.5"
    ∷ int_to 22 1296000  -- DF193 Longitude of Origin of Grids: 648,000" at 0.5"
    ∷ uint 12  -- DF194 N/S Grid Area Extension
    ∷ uint 12  -- DF195 E/W Grid Area Extension
    ∷ int 8  -- DF196 Mean Latitude Offset
    ∷ int 8  -- DF197 Mean Longitude Offset
    ∷ int 15  -- DF198 Mean Height Offset
    ∷ points

unfoldable pub layout1024 : List ℕ
layout1024 =
    uint 12  -- DF002 Message Number
    ∷ uint 8  -- DF147 System Identification Number
    ∷ uint 1  -- DF190 Horizontal Shift Indicator
    ∷ uint 1  -- DF191 Vertical Shift Indicator
    ∷ int 25  -- DF202 Northing of Origin
    ∷ uint 26  -- DF203 Easting of Origin
    ∷ uint 12  -- DF204 N/S Grid Area Extension
    ∷ uint 12  -- DF205 E/W Grid Area Extension
    ∷ int 10  -- DF206 Mean Local Northing Offset
    ∷ int 10  -- DF207 Mean Local Easting Offset
    ∷ int 15  -- DF208 Mean Local Height Offset
    ∷ points

-- ---- 1025, 1026 and 1027: latitudes to 90°, longitudes to 180° and azimuths to 360°, at 0.000000011°

unfoldable pub layout1025 : List ℕ
layout1025 =
    uint 12  -- DF002 Message Number
    ∷ uint 8  -- DF147 System Identification Number
    ∷ uint 6  -- DF170 Projection Type
    ∷ int_to 34 8181818181  -- DF171 LaNO, Latitude of Natural Origin
    ∷ int_to 35 16363636363  -- DF172 LoNO, Longitude of Natural Origin
    ∷ uint 30  -- DF173 add SNO, Scale Factor at Natural Origin
    ∷ uint 36  -- DF174 FE, False Easting
    ∷ int 35  -- DF175 FN, False Northing
    ∷ []

unfoldable pub layout1026 : List ℕ
layout1026 =
    uint 12  -- DF002 Message Number
    ∷ uint 8  -- DF147 System Identification Number
    ∷ uint 6  -- DF170 Projection Type
    ∷ int_to 34 8181818181  -- DF176 LaFO, Latitude of False Origin
    ∷ int_to 35 16363636363  -- DF177 LoFO, Longitude of False Origin
    ∷ int_to 34 8181818181  -- DF178 LaSP1, Latitude of Standard Parallel No. 1
    ∷ int_to 34 8181818181  -- DF179 LaSP2, Latitude of Standard Parallel No. 2
    ∷ uint 36  -- DF180 EFO, Easting of False Origin
    ∷ int 35  -- DF181 NFO, Northing of False Origin
    ∷ []

unfoldable pub layout1027 : List ℕ
layout1027 =
    uint 12  -- DF002 Message Number
    ∷ uint 8  -- DF147 System Identification Number
    ∷ uint 6  -- DF170 Projection Type
    ∷ uint 1  -- DF182 Rectification Flag
    ∷ int_to 34 8181818181  -- DF183 LaPC, Latitude of Projection Center
    ∷ int_to 35 16363636363  -- DF184 LoPC, Longitude of Projection Center
    ∷ uint_to 35 32727272727  -- DF185 AzIL, Azimuth of Initial Line
    ∷ int 26  -- DF186 Diff ARSG, Difference, Angle from Rectified to Skew Grid
    ∷ uint 30  -- DF187 Add SIL, Scale factor on Initial Line
    ∷ uint 36  -- DF188 EPC, Easting at Projection Center
    ∷ int 35  -- DF189 NPC, Northing at Projection Center
    ∷ []

-- ---- by number

abbrev pub known : ℕ → Bool
known k = leb 1021 k && leb k 1027

-- of the known numbers, those whose messages carry two names
abbrev pub named : ℕ → Bool
named k = leb k 1022

-- the layout of number k, with names of n and m characters where it carries names
unfoldable pub layout_of : ℕ → ℕ → ℕ → List ℕ
layout_of k n m =
    cond (eqb k 1021) (layout1021 n m)
    (cond (eqb k 1022) (layout1022 n m)
    (cond (eqb k 1023) layout1023
    (cond (eqb k 1024) layout1024
    (cond (eqb k 1025) layout1025
    (cond (eqb k 1026) layout1026
    (cond (eqb k 1027) layout1027
    []))))))
