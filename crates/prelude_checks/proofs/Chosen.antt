-- The types of the prelude's type expressions, by the numbers of their nodes.
use Rattle.std.proofs.Common.{ℕ, ◌==◌, List, [], ◌∷◌, ◌++◌, if◌then◌else◌}
use Rattle.type_model.specs.Types.{Typ, Var, Arrow, Tuple, Con, Nil, Cons}
use Rattle.typing_model.specs.BuiltIns.{int_type, char_type, string_type, float_type, unit_type, bool_type, exn_type, list_type}
use Rattle.typing_model.specs.Contexts.{Choice}

abbrev part0 : List (ℕ × Typ)
part0 =
    (6, Var 0) ∷
    (12, Var 0) ∷
    (18, Var 0) ∷
    (20, Var 1) ∷
    (31, string_type) ∷
    (34, string_type) ∷
    (36, Arrow exn_type (Var 0)) ∷
    (37, exn_type) ∷
    (38, Var 0) ∷
    (40, Arrow string_type (Var 0)) ∷
    (41, string_type) ∷
    (42, Var 0) ∷
    (44, Arrow string_type (Var 0)) ∷
    (45, string_type) ∷
    (46, Var 0) ∷
    (48, Arrow (Var 0) (Arrow (Var 0) bool_type)) ∷
    (49, Var 0) ∷
    (50, Arrow (Var 0) bool_type) ∷
    (51, Var 0) ∷
    (52, bool_type) ∷
    (54, Arrow (Var 0) (Arrow (Var 0) bool_type)) ∷
    (55, Var 0) ∷
    (56, Arrow (Var 0) bool_type) ∷
    (57, Var 0) ∷
    (58, bool_type) ∷
    (60, Arrow (Var 0) (Arrow (Var 0) bool_type)) ∷
    (61, Var 0) ∷
    (62, Arrow (Var 0) bool_type) ∷
    (63, Var 0) ∷
    (64, bool_type) ∷
    (66, Arrow (Var 0) (Arrow (Var 0) bool_type)) ∷
    (67, Var 0) ∷
    (68, Arrow (Var 0) bool_type) ∷
    (69, Var 0) ∷
    (70, bool_type) ∷
    (72, Arrow (Var 0) (Arrow (Var 0) bool_type)) ∷
    (73, Var 0) ∷
    (74, Arrow (Var 0) bool_type) ∷
    (75, Var 0) ∷
    (76, bool_type) ∷
    (78, Arrow (Var 0) (Arrow (Var 0) bool_type)) ∷
    (79, Var 0) ∷
    (80, Arrow (Var 0) bool_type) ∷
    (81, Var 0) ∷
    (82, bool_type) ∷
    (84, Arrow (Var 0) (Arrow (Var 0) bool_type)) ∷
    (85, Var 0) ∷
    (86, Arrow (Var 0) bool_type) ∷
    (87, Var 0) ∷
    (88, bool_type) ∷
    (90, Arrow (Var 0) (Arrow (Var 0) bool_type)) ∷
    (91, Var 0) ∷
    (92, Arrow (Var 0) bool_type) ∷
    (93, Var 0) ∷
    (94, bool_type) ∷
    (96, Arrow (Var 0) (Arrow (Var 0) int_type)) ∷
    (97, Var 0) ∷
    (98, Arrow (Var 0) int_type) ∷
    (99, Var 0) ∷
    (100, int_type) ∷
    (102, Arrow (Var 0) (Arrow (Var 0) (Var 0))) ∷
    (103, Var 0) ∷
    (104, Arrow (Var 0) (Var 0)) ∷
    (105, Var 0) ∷
    (106, Var 0) ∷
    (108, Arrow (Var 0) (Arrow (Var 0) (Var 0))) ∷
    (109, Var 0) ∷
    (110, Arrow (Var 0) (Var 0)) ∷
    (111, Var 0) ∷
    (112, Var 0) ∷
    (114, Arrow bool_type bool_type) ∷
    (115, bool_type) ∷
    (116, bool_type) ∷
    (118, Arrow bool_type (Arrow bool_type bool_type)) ∷
    (119, bool_type) ∷
    (120, Arrow bool_type bool_type) ∷
    (121, bool_type) ∷
    (122, bool_type) ∷
    (124, Arrow bool_type (Arrow bool_type bool_type)) ∷
    (125, bool_type) ∷
    (126, Arrow bool_type bool_type) ∷
    (127, bool_type) ∷
    (128, bool_type) ∷
    (130, Arrow int_type int_type) ∷
    (131, int_type) ∷
    (132, int_type) ∷
    (134, Arrow int_type (Arrow int_type int_type)) ∷
    (135, int_type) ∷
    (136, Arrow int_type int_type) ∷
    (137, int_type) ∷
    (138, int_type) ∷
    (140, Arrow int_type (Arrow int_type int_type)) ∷
    (141, int_type) ∷
    (142, Arrow int_type int_type) ∷
    (143, int_type) ∷
    (144, int_type) ∷
    (146, Arrow int_type (Arrow int_type int_type)) ∷
    (147, int_type) ∷
    (148, Arrow int_type int_type) ∷
    (149, int_type) ∷
    (150, int_type) ∷
    (152, Arrow int_type (Arrow int_type int_type)) ∷
    (153, int_type) ∷
    (154, Arrow int_type int_type) ∷
    (155, int_type) ∷
    (156, int_type) ∷
    (158, Arrow int_type (Arrow int_type int_type)) ∷
    (159, int_type) ∷
    (160, Arrow int_type int_type) ∷
    (161, int_type) ∷
    (162, int_type) ∷
    (164, Arrow int_type (Arrow int_type int_type)) ∷
    (165, int_type) ∷
    (166, Arrow int_type int_type) ∷
    (167, int_type) ∷
    (168, int_type) ∷
    (170, Arrow int_type (Arrow int_type int_type)) ∷
    (171, int_type) ∷
    (172, Arrow int_type int_type) ∷
    (173, int_type) ∷ []

abbrev part1 : List (ℕ × Typ)
part1 =
    (174, int_type) ∷
    (176, Arrow int_type (Arrow int_type int_type)) ∷
    (177, int_type) ∷
    (178, Arrow int_type int_type) ∷
    (179, int_type) ∷
    (180, int_type) ∷
    (182, Arrow int_type (Arrow int_type int_type)) ∷
    (183, int_type) ∷
    (184, Arrow int_type int_type) ∷
    (185, int_type) ∷
    (186, int_type) ∷
    (188, Arrow int_type (Arrow int_type int_type)) ∷
    (189, int_type) ∷
    (190, Arrow int_type int_type) ∷
    (191, int_type) ∷
    (192, int_type) ∷
    (194, Arrow int_type (Arrow int_type int_type)) ∷
    (195, int_type) ∷
    (196, Arrow int_type int_type) ∷
    (197, int_type) ∷
    (198, int_type) ∷
    (200, Arrow int_type int_type) ∷
    (201, int_type) ∷
    (202, int_type) ∷
    (204, Arrow int_type int_type) ∷
    (205, int_type) ∷
    (206, int_type) ∷
    (208, Arrow int_type int_type) ∷
    (209, int_type) ∷
    (210, int_type) ∷
    (212, int_type) ∷
    (214, int_type) ∷
    (216, Arrow float_type float_type) ∷
    (217, float_type) ∷
    (218, float_type) ∷
    (220, Arrow float_type (Arrow float_type float_type)) ∷
    (221, float_type) ∷
    (222, Arrow float_type float_type) ∷
    (223, float_type) ∷
    (224, float_type) ∷
    (226, Arrow float_type (Arrow float_type float_type)) ∷
    (227, float_type) ∷
    (228, Arrow float_type float_type) ∷
    (229, float_type) ∷
    (230, float_type) ∷
    (232, Arrow float_type (Arrow float_type float_type)) ∷
    (233, float_type) ∷
    (234, Arrow float_type float_type) ∷
    (235, float_type) ∷
    (236, float_type) ∷
    (238, Arrow float_type (Arrow float_type float_type)) ∷
    (239, float_type) ∷
    (240, Arrow float_type float_type) ∷
    (241, float_type) ∷
    (242, float_type) ∷
    (244, Arrow float_type (Arrow float_type float_type)) ∷
    (245, float_type) ∷
    (246, Arrow float_type float_type) ∷
    (247, float_type) ∷
    (248, float_type) ∷
    (250, Arrow int_type float_type) ∷
    (251, int_type) ∷
    (252, float_type) ∷
    (254, Arrow float_type int_type) ∷
    (255, float_type) ∷
    (256, int_type) ∷
    (258, Arrow float_type float_type) ∷
    (259, float_type) ∷
    (260, float_type) ∷
    (262, Arrow string_type (Arrow string_type string_type)) ∷
    (263, string_type) ∷
    (264, Arrow string_type string_type) ∷
    (265, string_type) ∷
    (266, string_type) ∷
    (268, Arrow int_type string_type) ∷
    (269, int_type) ∷
    (270, string_type) ∷
    (272, Arrow bool_type string_type) ∷
    (273, bool_type) ∷
    (274, string_type) ∷
    (276, Arrow float_type string_type) ∷
    (277, float_type) ∷
    (278, string_type) ∷
    (280, Arrow string_type int_type) ∷
    (281, string_type) ∷
    (282, int_type) ∷
    (284, Arrow int_type char_type) ∷
    (285, int_type) ∷
    (286, char_type) ∷
    (288, Arrow char_type int_type) ∷
    (289, char_type) ∷
    (290, int_type) ∷
    (292, Arrow (Var 0) unit_type) ∷
    (293, Var 0) ∷
    (294, unit_type) ∷
    (296, Arrow (Tuple (Cons (Var 0) (Cons (Var 1) Nil))) (Var 0)) ∷
    (297, Tuple (Cons (Var 0) (Cons (Var 1) Nil))) ∷
    (298, Var 0) ∷
    (299, Var 1) ∷
    (300, Var 0) ∷
    (302, Arrow (Tuple (Cons (Var 0) (Cons (Var 1) Nil))) (Var 1)) ∷
    (303, Tuple (Cons (Var 0) (Cons (Var 1) Nil))) ∷
    (304, Var 0) ∷
    (305, Var 1) ∷
    (306, Var 1) ∷
    (308, Arrow (list_type (Var 0)) (Arrow (list_type (Var 0)) (list_type (Var 0)))) ∷
    (309, list_type (Var 0)) ∷
    (310, Var 0) ∷
    (311, Arrow (list_type (Var 0)) (list_type (Var 0))) ∷
    (312, list_type (Var 0)) ∷
    (313, Var 0) ∷
    (314, list_type (Var 0)) ∷
    (315, Var 0) ∷
    (317, Arrow (Var 0) (Arrow (Arrow (Var 0) (Var 1)) (Var 1))) ∷
    (318, Var 0) ∷
    (319, Arrow (Arrow (Var 0) (Var 1)) (Var 1)) ∷
    (320, Arrow (Var 0) (Var 1)) ∷
    (321, Arrow (Var 0) (Var 1)) ∷
    (322, Var 0) ∷
    (323, Var 1) ∷ []

abbrev part2 : List (ℕ × Typ)
part2 =
    (324, Var 1) ∷
    (326, Arrow (Arrow (Var 0) (Var 1)) (Arrow (Var 0) (Var 1))) ∷
    (327, Arrow (Var 0) (Var 1)) ∷
    (328, Arrow (Var 0) (Var 1)) ∷
    (329, Var 0) ∷
    (330, Var 1) ∷
    (331, Arrow (Var 0) (Var 1)) ∷
    (332, Var 0) ∷
    (333, Var 1) ∷
    (335, Arrow (Var 0) (Con (8 ∷ []) (Cons (Var 0) Nil))) ∷
    (336, Var 0) ∷
    (337, Con (8 ∷ []) (Cons (Var 0) Nil)) ∷
    (338, Var 0) ∷
    (340, Arrow (Con (8 ∷ []) (Cons (Var 0) Nil)) (Var 0)) ∷
    (341, Con (8 ∷ []) (Cons (Var 0) Nil)) ∷
    (342, Var 0) ∷
    (343, Var 0) ∷
    (345, Arrow (Con (8 ∷ []) (Cons (Var 0) Nil)) (Arrow (Var 0) unit_type)) ∷
    (346, Con (8 ∷ []) (Cons (Var 0) Nil)) ∷
    (347, Var 0) ∷
    (348, Arrow (Var 0) unit_type) ∷
    (349, Var 0) ∷
    (350, unit_type) ∷
    (352, Arrow (Con (8 ∷ []) (Cons int_type Nil)) unit_type) ∷
    (353, Con (8 ∷ []) (Cons int_type Nil)) ∷
    (354, int_type) ∷
    (355, unit_type) ∷
    (357, Arrow (Con (8 ∷ []) (Cons int_type Nil)) unit_type) ∷
    (358, Con (8 ∷ []) (Cons int_type Nil)) ∷
    (359, int_type) ∷
    (360, unit_type) ∷
    (362, Arrow char_type unit_type) ∷
    (363, char_type) ∷
    (364, unit_type) ∷
    (366, Arrow string_type unit_type) ∷
    (367, string_type) ∷
    (368, unit_type) ∷
    (370, Arrow int_type unit_type) ∷
    (371, int_type) ∷
    (372, unit_type) ∷
    (374, Arrow string_type unit_type) ∷
    (375, string_type) ∷
    (376, unit_type) ∷
    (378, Arrow unit_type unit_type) ∷
    (379, unit_type) ∷
    (380, unit_type) ∷
    (382, Arrow unit_type string_type) ∷
    (383, unit_type) ∷
    (384, string_type) ∷
    (386, Arrow int_type (Var 0)) ∷
    (387, int_type) ∷
    (388, Var 0) ∷
    (392, Arrow (list_type (Var 0)) int_type) ∷
    (393, list_type (Var 0)) ∷
    (394, Var 0) ∷
    (395, int_type) ∷
    (397, Arrow (list_type (Var 0)) (Var 0)) ∷
    (398, list_type (Var 0)) ∷
    (399, Var 0) ∷
    (400, Var 0) ∷
    (402, Arrow (list_type (Var 0)) (list_type (Var 0))) ∷
    (403, list_type (Var 0)) ∷
    (404, Var 0) ∷
    (405, list_type (Var 0)) ∷
    (406, Var 0) ∷
    (408, Arrow (list_type (Var 0)) (Arrow int_type (Var 0))) ∷
    (409, list_type (Var 0)) ∷
    (410, Var 0) ∷
    (411, Arrow int_type (Var 0)) ∷
    (412, int_type) ∷
    (413, Var 0) ∷
    (415, Arrow (list_type (Var 0)) (list_type (Var 0))) ∷
    (416, list_type (Var 0)) ∷
    (417, Var 0) ∷
    (418, list_type (Var 0)) ∷
    (419, Var 0) ∷
    (421, Arrow (list_type (Var 0)) (Arrow (list_type (Var 0)) (list_type (Var 0)))) ∷
    (422, list_type (Var 0)) ∷
    (423, Var 0) ∷
    (424, Arrow (list_type (Var 0)) (list_type (Var 0))) ∷
    (425, list_type (Var 0)) ∷
    (426, Var 0) ∷
    (427, list_type (Var 0)) ∷
    (428, Var 0) ∷
    (430, Arrow (list_type (list_type (Var 0))) (list_type (Var 0))) ∷
    (431, list_type (list_type (Var 0))) ∷
    (432, list_type (Var 0)) ∷
    (433, Var 0) ∷
    (434, list_type (Var 0)) ∷
    (435, Var 0) ∷
    (437, Arrow (Arrow (Var 0) unit_type) (Arrow (list_type (Var 0)) unit_type)) ∷
    (438, Arrow (Var 0) unit_type) ∷
    (439, Arrow (Var 0) unit_type) ∷
    (440, Var 0) ∷
    (441, unit_type) ∷
    (442, Arrow (list_type (Var 0)) unit_type) ∷
    (443, list_type (Var 0)) ∷
    (444, Var 0) ∷
    (445, unit_type) ∷
    (447, Arrow (Arrow (Var 0) (Var 1)) (Arrow (list_type (Var 0)) (list_type (Var 1)))) ∷
    (448, Arrow (Var 0) (Var 1)) ∷
    (449, Arrow (Var 0) (Var 1)) ∷
    (450, Var 0) ∷
    (451, Var 1) ∷
    (452, Arrow (list_type (Var 0)) (list_type (Var 1))) ∷
    (453, list_type (Var 0)) ∷
    (454, Var 0) ∷
    (455, list_type (Var 1)) ∷
    (456, Var 1) ∷
    (458, Arrow (Arrow int_type (Arrow (Var 0) (Var 1))) (Arrow (list_type (Var 0)) (list_type (Var 1)))) ∷
    (459, Arrow int_type (Arrow (Var 0) (Var 1))) ∷
    (460, Arrow int_type (Arrow (Var 0) (Var 1))) ∷
    (461, int_type) ∷
    (462, Arrow (Var 0) (Var 1)) ∷
    (463, Var 0) ∷
    (464, Var 1) ∷
    (465, Arrow (list_type (Var 0)) (list_type (Var 1))) ∷
    (466, list_type (Var 0)) ∷
    (467, Var 0) ∷
    (468, list_type (Var 1)) ∷ []

abbrev part3 : List (ℕ × Typ)
part3 =
    (469, Var 1) ∷
    (471, Arrow (Arrow (Var 0) (Arrow (Var 1) (Var 0))) (Arrow (Var 0) (Arrow (list_type (Var 1)) (Var 0)))) ∷
    (472, Arrow (Var 0) (Arrow (Var 1) (Var 0))) ∷
    (473, Arrow (Var 0) (Arrow (Var 1) (Var 0))) ∷
    (474, Var 0) ∷
    (475, Arrow (Var 1) (Var 0)) ∷
    (476, Var 1) ∷
    (477, Var 0) ∷
    (478, Arrow (Var 0) (Arrow (list_type (Var 1)) (Var 0))) ∷
    (479, Var 0) ∷
    (480, Arrow (list_type (Var 1)) (Var 0)) ∷
    (481, list_type (Var 1)) ∷
    (482, Var 1) ∷
    (483, Var 0) ∷
    (485, Arrow (Arrow (Var 0) (Arrow (Var 1) (Var 1))) (Arrow (list_type (Var 0)) (Arrow (Var 1) (Var 1)))) ∷
    (486, Arrow (Var 0) (Arrow (Var 1) (Var 1))) ∷
    (487, Arrow (Var 0) (Arrow (Var 1) (Var 1))) ∷
    (488, Var 0) ∷
    (489, Arrow (Var 1) (Var 1)) ∷
    (490, Var 1) ∷
    (491, Var 1) ∷
    (492, Arrow (list_type (Var 0)) (Arrow (Var 1) (Var 1))) ∷
    (493, list_type (Var 0)) ∷
    (494, Var 0) ∷
    (495, Arrow (Var 1) (Var 1)) ∷
    (496, Var 1) ∷
    (497, Var 1) ∷
    (499, Arrow (Arrow (Var 0) bool_type) (Arrow (list_type (Var 0)) bool_type)) ∷
    (500, Arrow (Var 0) bool_type) ∷
    (501, Arrow (Var 0) bool_type) ∷
    (502, Var 0) ∷
    (503, bool_type) ∷
    (504, Arrow (list_type (Var 0)) bool_type) ∷
    (505, list_type (Var 0)) ∷
    (506, Var 0) ∷
    (507, bool_type) ∷
    (509, Arrow (Arrow (Var 0) bool_type) (Arrow (list_type (Var 0)) bool_type)) ∷
    (510, Arrow (Var 0) bool_type) ∷
    (511, Arrow (Var 0) bool_type) ∷
    (512, Var 0) ∷
    (513, bool_type) ∷
    (514, Arrow (list_type (Var 0)) bool_type) ∷
    (515, list_type (Var 0)) ∷
    (516, Var 0) ∷
    (517, bool_type) ∷
    (519, Arrow (Var 0) (Arrow (list_type (Var 0)) bool_type)) ∷
    (520, Var 0) ∷
    (521, Arrow (list_type (Var 0)) bool_type) ∷
    (522, list_type (Var 0)) ∷
    (523, Var 0) ∷
    (524, bool_type) ∷
    (526, Arrow (Arrow (Var 0) bool_type) (Arrow (list_type (Var 0)) (Var 0))) ∷
    (527, Arrow (Var 0) bool_type) ∷
    (528, Arrow (Var 0) bool_type) ∷
    (529, Var 0) ∷
    (530, bool_type) ∷
    (531, Arrow (list_type (Var 0)) (Var 0)) ∷
    (532, list_type (Var 0)) ∷
    (533, Var 0) ∷
    (534, Var 0) ∷
    (536, Arrow (Arrow (Var 0) bool_type) (Arrow (list_type (Var 0)) (list_type (Var 0)))) ∷
    (537, Arrow (Var 0) bool_type) ∷
    (538, Arrow (Var 0) bool_type) ∷
    (539, Var 0) ∷
    (540, bool_type) ∷
    (541, Arrow (list_type (Var 0)) (list_type (Var 0))) ∷
    (542, list_type (Var 0)) ∷
    (543, Var 0) ∷
    (544, list_type (Var 0)) ∷
    (545, Var 0) ∷
    (547, Arrow (Var 0) (Arrow (list_type (Tuple (Cons (Var 0) (Cons (Var 1) Nil)))) (Var 1))) ∷
    (548, Var 0) ∷
    (549, Arrow (list_type (Tuple (Cons (Var 0) (Cons (Var 1) Nil)))) (Var 1)) ∷
    (550, list_type (Tuple (Cons (Var 0) (Cons (Var 1) Nil)))) ∷
    (551, Tuple (Cons (Var 0) (Cons (Var 1) Nil))) ∷
    (552, Tuple (Cons (Var 0) (Cons (Var 1) Nil))) ∷
    (553, Var 0) ∷
    (554, Var 1) ∷
    (555, Var 1) ∷
    (557, Arrow (list_type (Var 0)) (Arrow (list_type (Var 1)) (list_type (Tuple (Cons (Var 0) (Cons (Var 1) Nil)))))) ∷
    (558, list_type (Var 0)) ∷
    (559, Var 0) ∷
    (560, Arrow (list_type (Var 1)) (list_type (Tuple (Cons (Var 0) (Cons (Var 1) Nil))))) ∷
    (561, list_type (Var 1)) ∷
    (562, Var 1) ∷
    (563, list_type (Tuple (Cons (Var 0) (Cons (Var 1) Nil)))) ∷
    (564, Tuple (Cons (Var 0) (Cons (Var 1) Nil))) ∷
    (565, Tuple (Cons (Var 0) (Cons (Var 1) Nil))) ∷
    (566, Var 0) ∷
    (567, Var 1) ∷
    (569, Arrow (list_type (Tuple (Cons (Var 0) (Cons (Var 1) Nil)))) (Tuple (Cons (list_type (Var 0)) (Cons (list_type (Var 1)) Nil)))) ∷
    (570, list_type (Tuple (Cons (Var 0) (Cons (Var 1) Nil)))) ∷
    (571, Tuple (Cons (Var 0) (Cons (Var 1) Nil))) ∷
    (572, Tuple (Cons (Var 0) (Cons (Var 1) Nil))) ∷
    (573, Var 0) ∷
    (574, Var 1) ∷
    (575, Tuple (Cons (list_type (Var 0)) (Cons (list_type (Var 1)) Nil))) ∷
    (576, list_type (Var 0)) ∷
    (577, Var 0) ∷
    (578, list_type (Var 1)) ∷
    (579, Var 1) ∷
    (581, Arrow (Arrow (Var 0) (Arrow (Var 0) int_type)) (Arrow (list_type (Var 0)) (list_type (Var 0)))) ∷
    (582, Arrow (Var 0) (Arrow (Var 0) int_type)) ∷
    (583, Arrow (Var 0) (Arrow (Var 0) int_type)) ∷
    (584, Var 0) ∷
    (585, Arrow (Var 0) int_type) ∷
    (586, Var 0) ∷
    (587, int_type) ∷
    (588, Arrow (list_type (Var 0)) (list_type (Var 0))) ∷
    (589, list_type (Var 0)) ∷
    (590, Var 0) ∷
    (591, list_type (Var 0)) ∷
    (592, Var 0) ∷
    (596, Arrow (Con (1 ∷ []) (Cons (Var 0) Nil)) (Var 0)) ∷
    (597, Con (1 ∷ []) (Cons (Var 0) Nil)) ∷
    (598, Var 0) ∷
    (599, Var 0) ∷
    (601, Arrow (Con (1 ∷ []) (Cons (Var 0) Nil)) (Arrow (Arrow (Var 0) (Con (1 ∷ []) (Cons (Var 1) Nil))) (Con (1 ∷ []) (Cons (Var 1) Nil)))) ∷
    (602, Con (1 ∷ []) (Cons (Var 0) Nil)) ∷
    (603, Var 0) ∷ []

abbrev part4 : List (ℕ × Typ)
part4 =
    (604, Arrow (Arrow (Var 0) (Con (1 ∷ []) (Cons (Var 1) Nil))) (Con (1 ∷ []) (Cons (Var 1) Nil))) ∷
    (605, Arrow (Var 0) (Con (1 ∷ []) (Cons (Var 1) Nil))) ∷
    (606, Arrow (Var 0) (Con (1 ∷ []) (Cons (Var 1) Nil))) ∷
    (607, Var 0) ∷
    (608, Con (1 ∷ []) (Cons (Var 1) Nil)) ∷
    (609, Var 1) ∷
    (610, Con (1 ∷ []) (Cons (Var 1) Nil)) ∷
    (611, Var 1) ∷
    (613, Arrow (Arrow (Var 0) (Var 1)) (Arrow (Con (1 ∷ []) (Cons (Var 0) Nil)) (Con (1 ∷ []) (Cons (Var 1) Nil)))) ∷
    (614, Arrow (Var 0) (Var 1)) ∷
    (615, Arrow (Var 0) (Var 1)) ∷
    (616, Var 0) ∷
    (617, Var 1) ∷
    (618, Arrow (Con (1 ∷ []) (Cons (Var 0) Nil)) (Con (1 ∷ []) (Cons (Var 1) Nil))) ∷
    (619, Con (1 ∷ []) (Cons (Var 0) Nil)) ∷
    (620, Var 0) ∷
    (621, Con (1 ∷ []) (Cons (Var 1) Nil)) ∷
    (622, Var 1) ∷
    (624, Arrow (Arrow (Var 0) unit_type) (Arrow (Con (1 ∷ []) (Cons (Var 0) Nil)) unit_type)) ∷
    (625, Arrow (Var 0) unit_type) ∷
    (626, Arrow (Var 0) unit_type) ∷
    (627, Var 0) ∷
    (628, unit_type) ∷
    (629, Arrow (Con (1 ∷ []) (Cons (Var 0) Nil)) unit_type) ∷
    (630, Con (1 ∷ []) (Cons (Var 0) Nil)) ∷
    (631, Var 0) ∷
    (632, unit_type) ∷
    (634, Arrow (Con (1 ∷ []) (Cons (Var 0) Nil)) bool_type) ∷
    (635, Con (1 ∷ []) (Cons (Var 0) Nil)) ∷
    (636, Var 0) ∷
    (637, bool_type) ∷
    (639, Arrow (Con (1 ∷ []) (Cons (Var 0) Nil)) bool_type) ∷
    (640, Con (1 ∷ []) (Cons (Var 0) Nil)) ∷
    (641, Var 0) ∷
    (642, bool_type) ∷
    (646, Arrow string_type int_type) ∷
    (647, string_type) ∷
    (648, int_type) ∷
    (650, Arrow string_type (Arrow int_type char_type)) ∷
    (651, string_type) ∷
    (652, Arrow int_type char_type) ∷
    (653, int_type) ∷
    (654, char_type) ∷
    (656, Arrow int_type (Arrow char_type string_type)) ∷
    (657, int_type) ∷
    (658, Arrow char_type string_type) ∷
    (659, char_type) ∷
    (660, string_type) ∷
    (662, Arrow string_type (Arrow int_type (Arrow int_type string_type))) ∷
    (663, string_type) ∷
    (664, Arrow int_type (Arrow int_type string_type)) ∷
    (665, int_type) ∷
    (666, Arrow int_type string_type) ∷
    (667, int_type) ∷
    (668, string_type) ∷
    (670, Arrow string_type (Arrow (list_type string_type) string_type)) ∷
    (671, string_type) ∷
    (672, Arrow (list_type string_type) string_type) ∷
    (673, list_type string_type) ∷
    (674, string_type) ∷
    (675, string_type) ∷
    (677, Arrow string_type (Arrow string_type int_type)) ∷
    (678, string_type) ∷
    (679, Arrow string_type int_type) ∷
    (680, string_type) ∷
    (681, int_type) ∷ []

-- the type of a number in a table
abbrev pub type_in : List (ℕ × Typ) → ℕ → Typ
type_in [] n = Var 0
type_in ((k, t) ∷ rest) n = if n == k then t else type_in rest n

-- the types of all type expressions
abbrev pub chosen : List (ℕ × Typ)
chosen = part0 ++ part1 ++ part2 ++ part3 ++ part4

abbrev pub choice : Choice
choice = record { type_at = type_in chosen; letter = λ n k. Var 0; written = λ n x. Var 0; filled = λ n o. Var 0 }
